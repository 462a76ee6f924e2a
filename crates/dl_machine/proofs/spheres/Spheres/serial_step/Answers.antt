use Rattle.std.proofs.Common.{◌≡◌, ◌<◌, length, IfOk, Some, arith}
use Rattle.std.specs.Prelude.{slice_get}
use Rattle.std.proofs.lemmas.Grind.{common_steps}
use Rattle.spec_isa.specs.declared.thread.Parts.{Parts}
use Rattle.spec_sphere.specs.sphere.Commits.{serial_moved}
use Rattle.spec_sphere.specs.sphere.Spheres.{Sphere}
use Rattle.dl_sphere.specs.SizedSpheres.{SizedSphere}
use Rattle.dl_sphere.specs.Moving.{IsTurnOf, came}
use Rattle.dl_machine.proofs.Rows.Spheres.{row_says, said_of_row, others_left, spheres_set}
use Rattle.dl_machine.proofs.spheres.Spheres.serial_step.Goals as goal

pub serial_step-requires-clause-turn : goal.serial_step-requires-clause-turn
serial_step-requires-clause-turn c =
    let within : c.args.i < length c.self.inside.row.items = grind (arith, common_steps) in
    row_says (λ (p : SizedSphere). IsTurnOf c.args.thread p.sphere.role) _ _ _ _ _ _ c.self.invariant c.self.view_is within c.index_mut-sphere.ensures.value c.requires.turn

pub returns-clause-ok : goal.returns-clause-ok
returns-clause-ok c =
    let within : c.args.i < length c.self.inside.row.items = grind (arith, common_steps) in
    let P : SizedSphere → Sphere → Type 0 = λ o q. IfOk c.serial_step.result (λ m. (t : Parts) → slice_get o.sphere.threads c.args.thread ≡ Some t → came m q c.serial_step.new.devices ≡ serial_moved c.args.thread c.args.moment t c.args.devices.now o.sphere) in
    said_of_row P _ _ _ _ _ _ _ c.self.invariant c.self.view_is within c.index_mut-sphere.ensures.value c.serial_step.ensures.ok

pub returns-clause-others : goal.returns-clause-others
returns-clause-others c =
    let within : c.args.i < length c.self.inside.row.items = grind (arith, common_steps) in
    others_left _ _ _ _ _ _ c.self.view_is within

pub invariant_of-self : goal.invariant_of-self
invariant_of-self c =
    let within : c.args.i < length c.self.inside.row.items = grind (arith, common_steps) in
    spheres_set _ _ _ _ _ _ c.self.invariant within c.index_mut-sphere.ensures.value c.serial_step.ensures.standard c.serial_step.ensures.size
