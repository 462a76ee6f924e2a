-- A core whose sphere there is begins with its first thread.
use Rattle.std.proofs.Common.{◌≡◌, ◌<◌, ◌≤◌, ℕ, Option, ap, sym, subst, ◌∙◌}
use Rattle.std.proofs.lemmas.Option.{slice_get-get_or, slice_get_past}
use Rattle.spec_sphere.specs.sphere.Spheres.{Sphere, no_sphere}
use Rattle.dl_sphere.specs.SizedSpheres.{SizedSphere}
use Rattle.dl_machine.specs.Cores.{Core, afresh, holding, idle}
use Rattle.dl_machine.specs.Setups.{first_held, numbers_with}
use Rattle.dl_machine.proofs.cores.first.Goals as goal
use Rattle.dl_machine.proofs.cores.first.Goals.{then-core-len, else-core-len}

pub returns : goal.returns
returns g c =
    let s = c.args.setup.now in
    let r = c.args.spheres.now in
    let z = numbers_with s r in
    let rest = idle r.most s.capacity s.bits s.depth in
    let made : c.in_ok-made.made ≡ rest = c.in_ok-made.ensures ∙ ap (λ (n : ℕ). idle n s.capacity s.bits s.depth) c.most.ensures.value in
    let from = λ (p : Option Sphere). holding (first_held z c.args.core p) rest in
    elim c.if-core-len.branch [
      | then-core-len w ↦
          w.made-is ∙ w.begin.ensures
          ∙ ap (λ (e : Core). holding (afresh e w.get.result.now c.args.core 0) e) made
          ∙ ap (λ (p : SizedSphere). holding (afresh rest p c.args.core 0) rest) w.get.ensures.sphere
          ∙ ap from (sym (slice_get-get_or r.spheres c.args.core no_sphere (subst (λ (n : ℕ). c.args.core < n) c.len.ensures.value w.if-core-len.true)))
      | else-core-len w ↦
          w.made-is ∙ made
          ∙ ap from (sym (slice_get_past r.spheres c.args.core (subst (λ (n : ℕ). n ≤ c.args.core) c.len.ensures.value w.if-core-len.false)))
    ]
