use Rattle.std.proofs.Common.{◌<◌, length, arith, None, Option}
use Rattle.std.proofs.lemmas.Grind.{common_steps}
use Rattle.dl_machine.specs.Cores.{Core}
use Rattle.spec_protocol.specs.machine.World.{Occupant}
use Rattle.dl_machine.proofs.Rows.Cores.{cores_set, row_left}
use Rattle.dl_machine.proofs.cores.Cores.rest.Goals as goal

pub invariant_of-self : goal.invariant_of-self
invariant_of-self g c =
    let within : c.args.core < length c.self.inside.row.items = grind (arith, common_steps) in
    cores_set _ _ _ _ _ _ _ _ _ c.self.invariant within c.index_mut-core.ensures.value c.rest.ensures

pub returns : goal.returns
returns g c =
    let within : c.args.core < length c.self.inside.row.items = grind (arith, common_steps) in
    let f : Core → Option Occupant = λ r. None in
    row_left _ _ _ _ _ _ _ _ f _ c.self.invariant c.self.view_is within c.index_mut-core.ensures.value c.rest.ensures
