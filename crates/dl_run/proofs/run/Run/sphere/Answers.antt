use Rattle.std.proofs.Common.{ap, arith, length}
use Rattle.dl_machine.specs.Setups.{setup_in}
use Rattle.dl_run.specs.Ran.{Ran}
use Rattle.dl_run.proofs.Over.{as_many, few_spheres}
use Rattle.dl_run.proofs.run.Run.sphere.Goals as goal

pub sphere-requires : goal.sphere-requires
sphere-requires c =
    let r : Ran = record { setup = setup_in c.self.inside.setup; world = c.self.inside.machine } in
    let many = as_many c.self.invariant.0 r c.self.invariant.1 in
    let few = few_spheres c.self.invariant.0 r c.self.invariant.1 in
    let seen = ap (λ (x : Ran). length x.setup.spheres) c.self.view_is in
    let inside = c.requires in
    omega (arith, many, few, seen, inside)
