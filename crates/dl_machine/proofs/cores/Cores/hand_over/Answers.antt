use Rattle.std.proofs.Common.{◌<◌, length, arith, option_map, Option, sym, ap, ◌∙◌}
use Rattle.std.proofs.lemmas.Grind.{common_steps}
use Rattle.dl_machine.specs.Cores.{Core, given_up, writes_in}
use Rattle.spec_engine.specs.Signatures.{nothing}
use Rattle.spec_protocol.specs.machine.World.{Occupant}
use Rattle.dl_machine.proofs.Rows.Cores.{core_at, cores_set, row_left}
use Rattle.dl_machine.proofs.cores.Cores.hand_over.Goals as goal

pub invariant_of-self : goal.invariant_of-self
invariant_of-self g c =
    let within : c.args.core < length c.self.inside.row.items = grind (arith, common_steps) in
    cores_set _ _ _ _ _ _ _ _ _ c.self.invariant within c.index_mut-core.ensures.value c.hand_over.ensures.core

pub returns-clause-core : goal.returns-clause-core
returns-clause-core g c =
    let within : c.args.core < length c.self.inside.row.items = grind (arith, common_steps) in
    let f : Core → Option Occupant = λ r. option_map given_up r.held in
    row_left _ _ _ _ _ _ _ _ f _ c.self.invariant c.self.view_is within c.index_mut-core.ensures.value c.hand_over.ensures.core

pub hand_over-requires : goal.hand_over-requires
hand_over-requires g c =
    let within : c.args.core < length c.self.inside.row.items = grind (arith, common_steps) in
    c.requires.empty ∙ ap (λ (r : Core). nothing r.bits) (sym (core_at _ _ _ _ _ _ _ _ c.self.invariant c.self.view_is within c.index_mut-core.ensures.value))

pub returns-clause-given : goal.returns-clause-given
returns-clause-given g c =
    let within : c.args.core < length c.self.inside.row.items = grind (arith, common_steps) in
    c.hand_over.ensures.given ∙ ap (λ (r : Core). writes_in r.bits r.held) (core_at _ _ _ _ _ _ _ _ c.self.invariant c.self.view_is within c.index_mut-core.ensures.value)
