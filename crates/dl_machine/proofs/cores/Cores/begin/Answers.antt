use Rattle.std.proofs.Common.{◌<◌, ◌≤◌, length, arith, Option, sym, subst}
use Rattle.std.proofs.lemmas.Grind.{common_steps}
use Rattle.dl_sphere.specs.Setups.{standard_in}
use Rattle.dl_machine.specs.Cores.{Core, afresh}
use Rattle.spec_protocol.specs.machine.World.{Occupant}
use Rattle.dl_machine.proofs.Rows.Cores.{core_at, cores_set, row_left}
use Rattle.dl_machine.proofs.cores.Cores.begin.Goals as goal

pub invariant_of-self : goal.invariant_of-self
invariant_of-self g c =
    let within : c.args.core < length c.self.inside.row.items = grind (arith, common_steps) in
    cores_set _ _ _ _ _ _ _ _ _ c.self.invariant within c.index_mut-core.ensures.value c.begin.ensures

pub returns : goal.returns
returns g c =
    let within : c.args.core < length c.self.inside.row.items = grind (arith, common_steps) in
    let f : Core → Option Occupant = λ r. afresh r c.args.of.now c.args.sphere c.args.thread in
    row_left _ _ _ _ _ _ _ _ f _ c.self.invariant c.self.view_is within c.index_mut-core.ensures.value c.begin.ensures

pub begin-requires : goal.begin-requires
begin-requires g c =
    let within : c.args.core < length c.self.inside.row.items = grind (arith, common_steps) in
    let of = c.args.of.now in
    subst (λ (r : Core). standard_in of.s of.sphere.role ≤ r.most) (sym (core_at _ _ _ _ _ _ _ _ c.self.invariant c.self.view_is within c.index_mut-core.ensures.value)) c.requires.most
