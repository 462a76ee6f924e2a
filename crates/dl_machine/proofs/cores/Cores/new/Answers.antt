use Rattle.std.proofs.Common.{◌≡◌, ℕ, ◌∷◌, ◌++◌, [], List, length, Option, map, refl, sym, ap, subst, ◌∙◌, arith}
use Rattle.std.proofs.lemmas.Grind.{common_steps}
use Rattle.std.proofs.lemmas.List.{map-append}
use Rattle.std.proofs.lemmas.List.Elements.{All-push}
use Rattle.spec_protocol.specs.machine.World.{Occupant}
use Rattle.spec_protocol.specs.machine.Machine.{first_cores}
use Rattle.dl_machine.specs.Cores.{Core}
use Rattle.dl_machine.specs.Rows.{AreCores, IsAlike, held_by}
use Rattle.dl_machine.specs.Setups.{numbers_with}
use Rattle.dl_machine.proofs.Rows.FirstCores.{first_more}
use Rattle.dl_machine.proofs.cores.Cores.new.Goals as goal

pub loop-core-preserved : goal.loop-core-preserved
loop-core-preserved g c =
    let s = c.args.setup.now in
    let new : IsAlike c.args.spheres.now.most s.capacity s.bits s.depth c.in_ok-first.field-0 = rw c.in_ok-first.ensures (record { most = refl; capacity = refl; bits = refl; depth = refl }) in
    let z = numbers_with s c.args.spheres.now in
    let ps = c.args.spheres.now.spheres in
    let k = c.loop-core.core in
    record {
      held =
          ap (λ (row : List Core). map held_by row) c.push_reserved.ensures.items
          ∙ map-append held_by c.loop-core.row.items (c.in_ok-first.field-0 ∷ [])
          ∙ ap (λ (hs : List (Option Occupant)). hs ++ held_by c.in_ok-first.field-0 ∷ []) c.loop-core.invariant.held
          ∙ ap (λ (d : Core). first_cores z 0 k ps ++ held_by d ∷ []) c.in_ok-first.ensures
          ∙ sym (first_more z k ps);
      each = rw c.push_reserved.ensures.items (All-push (IsAlike c.args.spheres.now.most s.capacity s.bits s.depth) _ _ c.loop-core.invariant.each new);
      len = grind (arith, common_steps);
      room = grind (arith, common_steps);
    }

pub invariant_of-result : goal.invariant_of-result
invariant_of-result g c =
    let s = c.args.setup.now in
    let inv = c.loop-core.invariant in
    let full : length c.loop-core.row.items ≡ s.cores = grind (arith, common_steps) in
    subst (λ (n : ℕ). AreCores n s.capacity s.bits s.depth c.loop-core.row.items) (sym c.most.ensures.value)
    (record {
      some_core = omega (arith, full, c.requires.cores.0);
      most_cores = omega (arith, full, c.requires.cores.1);
      least = c.requires.least;
      most = c.requires.most;
      size = c.requires.signature;
      each = inv.each;
    })

pub returns : goal.returns
returns g c =
    let s = c.args.setup.now in
    let r = c.args.spheres.now in
    let z = numbers_with s r in
    let full : c.loop-core.core ≡ s.cores = omega (arith, c.loop-core-test.false, c.loop-core.auto.core-end) in
    let held = c.loop-core.invariant.held ∙ ap (λ (n : ℕ). first_cores z 0 n r.spheres) full in
    λ i. record { most = c.most.ensures.value i; capacity = s.capacity; bits = s.bits; depth = s.depth; held = held i }
