use Rattle.std.proofs.Common.{◌<◌, ◌≤◌, length, arith, Option, sym, subst}
use Rattle.std.specs.Prelude.{IsSome}
use Rattle.std.proofs.lemmas.Grind.{common_steps}
use Rattle.spec_protocol.specs.machine.World.{Occupant}
use Rattle.dl_sphere.specs.Setups.{standard_in}
use Rattle.dl_machine.specs.Cores.{Core, goes_on, numbers_of}
use Rattle.dl_machine.proofs.Rows.Cores.{core_at, cores_set, row_left}
use Rattle.dl_machine.proofs.cores.Cores.go_on.Goals as goal

pub invariant_of-self : goal.invariant_of-self
invariant_of-self g c =
    let within : c.args.core < length c.self.inside.row.items = grind (arith, common_steps) in
    cores_set _ _ _ _ _ _ _ _ _ c.self.invariant within c.index_mut-core.ensures.value c.go_on.ensures

pub returns : goal.returns
returns g c =
    let within : c.args.core < length c.self.inside.row.items = grind (arith, common_steps) in
    let f : Core → Option Occupant = λ r. goes_on (numbers_of r c.args.of.now) c.args.of.now.sphere r.held in
    row_left _ _ _ _ _ _ _ _ f _ c.self.invariant c.self.view_is within c.index_mut-core.ensures.value c.go_on.ensures

pub go_on-requires-clause-held : goal.go_on-requires-clause-held
go_on-requires-clause-held g c =
    let within : c.args.core < length c.self.inside.row.items = grind (arith, common_steps) in
    subst (λ (r : Core). IsSome r.held) (sym (core_at _ _ _ _ _ _ _ _ c.self.invariant c.self.view_is within c.index_mut-core.ensures.value)) c.requires.held

pub go_on-requires-clause-most : goal.go_on-requires-clause-most
go_on-requires-clause-most g c =
    let within : c.args.core < length c.self.inside.row.items = grind (arith, common_steps) in
    let of = c.args.of.now in
    subst (λ (r : Core). standard_in of.s of.sphere.role ≤ r.most) (sym (core_at _ _ _ _ _ _ _ _ c.self.invariant c.self.view_is within c.index_mut-core.ensures.value)) c.requires.most
