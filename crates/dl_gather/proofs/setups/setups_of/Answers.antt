use Rattle.std.proofs.Common.{◌≡◌, ◌∷◌, ◌++◌, [], List, All, length, map, append_assoc, arith, rules, ap, sym, ◌∙◌, subst}
use Rattle.std.proofs.lemmas.List.Elements.{All-nil, All-cons, All-append}
use Rattle.std.specs.Vec.Iter.{into_iter_items}
use Rattle.dl_sphere.specs.Setups.{HasBegun, setup_of as setup_view}
use Rattle.spec_program.specs.Built.{spheres_of}
use Rattle.dl_gather.specs.declared.inputs.SphereInputs.{SphereInputs}
use Rattle.dl_gather.specs.Inputs.{sphere_view}
use Rattle.dl_gather.specs.Intervals.{AreAllOrdered}
use Rattle.dl_gather.proofs.Memories.{length_pushed}
use Rattle.dl_gather.proofs.SettingUp.{setup_more}
use Rattle.dl_gather.proofs.Stages.{after}
use Rattle.dl_gather.proofs.setups.setups_of.Goals as goal

pub setup_of-requires : goal.setup_of-requires
setup_of-requires c =
    let steps : into_iter_items c.loop-input.input-iterator ≡ c.in-Some.input ∷ into_iter_items c.next.new.self = c.in-Some.ensures.steps.0 in
    (subst (λ (xs : List SphereInputs). AreAllOrdered (map sphere_view xs)) steps c.loop-input.invariant.order).0

pub loop-input-preserved : goal.loop-input-preserved
loop-input-preserved c =
    let at = c.loop-input in
    let x = c.in-Some.input in
    let done = at.spheres.items in
    let sphere = c.in_ok-sphere.sphere in
    let rest = into_iter_items c.next.new.self in
    let images = into_iter_items c.next-in-loop-input.new.self in
    let steps : into_iter_items at.input-iterator ≡ x ∷ rest = c.in-Some.ensures.steps.0 in
    let taken : into_iter_items at.images ≡ c.in-Some-next.image ∷ images = c.in-Some-next.ensures.cases.0 in
    let pushed : c.push.new.self.items ≡ done ++ sphere ∷ [] = c.in-Ok.ensures.items in
    let number : c.len.result ≡ length done = search rules in
    record {
      items = append_assoc at.yielded (x ∷ []) _ ∙ rw (← steps) at.invariant.items;
      left =
          let was = at.invariant.left in
          let gone = c.in-Some.ensures.steps.1 in
          let short = ap length steps in
          omega arith;
      images =
          let was = at.invariant.images in
          let gone = c.in-Some-next.ensures.cases.1 in
          let short = ap length taken in
          omega arith;
      beside =
          let was = at.invariant.beside in
          let inputs_short = ap length steps in
          let images_short = ap length taken in
          omega arith;
      order = (subst (λ (xs : List SphereInputs). AreAllOrdered (map sphere_view xs)) steps at.invariant.order).1;
      begun =
          subst (All HasBegun) (sym pushed)
          (All-append HasBegun done (sphere ∷ []) at.invariant.begun (All-cons HasBegun sphere [] c.in_ok-sphere.ensures.begun (All-nil HasBegun)));
      number = omega (arith, ap length pushed, length_pushed done sphere, length_pushed at.yielded x, at.invariant.number);
      made =
          setup_more _ done c.push.new.self.items x rest c.in-Some-next.image images c.len.result sphere
          (at.invariant.made ∙ (λ k. after (map setup_view done) (spheres_of (length done) (map sphere_view (steps k)) (taken k))))
          number c.in_ok-sphere.ensures.sphere pushed;
    }
