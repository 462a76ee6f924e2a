use Rattle.std.proofs.Common.{◌<◌, length, arith, Option, sym, subst}
use Rattle.std.specs.Prelude.{IsSome}
use Rattle.std.proofs.lemmas.Grind.{common_steps}
use Rattle.dl_machine.specs.Cores.{Core}
use Rattle.spec_protocol.specs.machine.Flying.{squashed_younger, younger_of}
use Rattle.spec_protocol.specs.machine.World.{Occupant}
use Rattle.dl_machine.proofs.Rows.Cores.{core_at, cores_set, row_left}
use Rattle.dl_machine.proofs.cores.Cores.squash_younger.Goals as goal

pub invariant_of-self : goal.invariant_of-self
invariant_of-self g c =
    let within : c.args.core < length c.self.inside.row.items = grind (arith, common_steps) in
    cores_set _ _ _ _ _ _ _ _ _ c.self.invariant within c.index_mut-core.ensures.value c.squash_younger.ensures

pub returns : goal.returns
returns g c =
    let within : c.args.core < length c.self.inside.row.items = grind (arith, common_steps) in
    let f : Core → Option Occupant = λ r. squashed_younger r.held in
    row_left _ _ _ _ _ _ _ _ f _ c.self.invariant c.self.view_is within c.index_mut-core.ensures.value c.squash_younger.ensures

pub squash_younger-requires : goal.squash_younger-requires
squash_younger-requires g c =
    let within : c.args.core < length c.self.inside.row.items = grind (arith, common_steps) in
    subst (λ (r : Core). IsSome (younger_of r.held)) (sym (core_at _ _ _ _ _ _ _ _ c.self.invariant c.self.view_is within c.index_mut-core.ensures.value)) c.requires.younger
