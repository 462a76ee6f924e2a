use Rattle.std.proofs.Common.{◌≡◌, ℕ, ◌+◌, List, [], ◌∷◌, ◌++◌, length, map, drop, get_or, flat_map, Some, Ok, ap, ◌∙◌, sym, subst}
use Rattle.dl_files.specs.Contents.{Contents}
use Rattle.dl_files.specs.Seen.{Seen}
use Rattle.dl_plan.specs.declared.Sphere.{Sphere}
use Rattle.dl_plan.specs.Values.{SphereValues, IsMemory, role_view, sphere_view}
use Rattle.spec_program.specs.Files.{sphere_read, spheres_read}
use Rattle.dl_gather.specs.declared.inputs.SphereInputs.{SphereInputs}
use Rattle.dl_gather.specs.Inputs.{IsPlannedRole, AreReadRoles, HaveMemories, sphere_view as sphere_inputs}
use Rattle.dl_gather.specs.Halts.{Unread}
use Rattle.dl_gather.specs.Reads.{read_for_sphere}
use Rattle.dl_gather.proofs.Spheres.{sphere_part, spheres_more, turns_more}
use Rattle.dl_gather.proofs.Memories.{length_pushed, more_memories, planned_memory}
use Rattle.dl_gather.proofs.Recordable.{more_recordable, planned_recordable}
use Rattle.dl_gather.proofs.Stages.{after}
use Rattle.dl_gather.proofs.Stopping.{halt_carried, unread_in}
use Rattle.dl_gather.proofs.gathering.read_spheres.Goals as goal

pub returns-in_err-sphere-clause-halt : goal.returns-in_err-sphere-clause-halt
returns-in_err-sphere-clause-halt g c =
    let inv = c.loop-sphere.invariant in
    let ss = c.args.spheres.now in
    let i = c.loop-sphere.sphere-index in
    let d = c.sphere-item.result in
    let here : SphereValues = sphere_view (get_or ss i d) in
    let old = g.F.Files.seen c.args.files.now in
    let new = g.F.Files.seen c.read_sphere.new.files in
    let halt = c.in_err-sphere.field-0.0 in
    halt_carried c.from_residual.result halt (Unread (flat_map read_for_sphere (map sphere_view ss)) (λ m. spheres_read m (map sphere_view ss)) old new) c.from_residual.ensures.1
    (unread_in old new (read_for_sphere here) (flat_map read_for_sphere (map sphere_view ss)) (λ m. sphere_read m here) (λ m. spheres_read m (map sphere_view ss)) halt
    (sphere_part old.known ss i d c.loop-sphere.read.items c.loop-sphere-test.true inv.read inv.turns)
    (subst (λ (s : Seen). Unread (read_for_sphere here) (λ m. sphere_read m here) s new halt) inv.seen
    (subst (λ (s : Sphere). Unread (read_for_sphere (sphere_view s)) (λ m. sphere_read m (sphere_view s)) (g.F.Files.seen c.loop-sphere.files) new halt) c.sphere-item.is c.in_err-sphere.ensures.halt)))

pub loop-sphere-preserved : goal.loop-sphere-preserved
loop-sphere-preserved g c =
    let inv = c.loop-sphere.invariant in
    let ss = c.args.spheres.now in
    let i = c.loop-sphere.sphere-index in
    let d = c.sphere-item.result in
    let done = c.loop-sphere.read.items in
    let x = c.in_ok-sphere.sphere in
    let known = (g.F.Files.seen c.args.files.now).known in
    let made : (m : Contents) → known ≡ Some m → sphere_read m (sphere_view (get_or ss i d)) ≡ Ok (sphere_inputs x) =
    λ m e. ap (λ (s : Sphere). sphere_read m (sphere_view s)) (sym c.sphere-item.is) ∙ c.in_ok-sphere.ensures.read m (ap (λ (s : Seen). s.known) inv.seen ∙ e)
    in
    let pushed : c.push.new.self.items ≡ done ++ x ∷ [] = c.in-Ok.ensures.items in
    let has : IsMemory x.memory =
    subst IsMemory (ap (λ (s : Sphere). s.memory) (sym c.sphere-item.is) ∙ sym c.in_ok-sphere.ensures.memory) (planned_memory ss i d c.requires c.loop-sphere-test.true)
    in
    record {
      read = λ m e. spheres_more m ss i d done x c.loop-sphere-test.true (inv.read m e) (made m e) ∙ ap (λ (xs : List SphereInputs). after (map sphere_inputs xs) (spheres_read m (map sphere_view (drop (i + 1) ss)))) (sym pushed);
      turns = λ m e. turns_more m ss i d x c.loop-sphere-test.true (inv.turns m e) (made m e);
      seen = c.in_ok-sphere.ensures.same ∙ inv.seen;
      count = ap length pushed ∙ length_pushed done x ∙ ap (λ (n : ℕ). n + 1) inv.count;
      memories = subst (λ (xs : List SphereInputs). HaveMemories (map sphere_inputs xs)) (sym pushed) (more_memories done x inv.memories has);
      roles =
          λ s are.
          let is = subst (λ (y : Sphere). IsPlannedRole s (role_view y.role)) (sym c.sphere-item.is) (planned_recordable s ss i d are c.loop-sphere-test.true) in
          subst (λ (xs : List SphereInputs). AreReadRoles s (map sphere_inputs xs)) (sym pushed) (more_recordable s done x (inv.roles s are) (c.in_ok-sphere.ensures.roles s is));
    }
