use Rattle.std.proofs.Common.{◌<◌, length, arith, option_map, Option, sym, ap, subst, ◌∙◌}
use Rattle.std.proofs.lemmas.Grind.{common_steps}
use Rattle.spec_protocol.specs.machine.World.{Occupant}
use Rattle.dl_chunk.specs.Pairs.{pair_step}
use Rattle.dl_machine.specs.Cores.{CanStepHeld, Core, pair_in, with_pair}
use Rattle.dl_machine.proofs.Rows.Cores.{core_at, cores_set, row_left}
use Rattle.dl_machine.proofs.cores.Cores.step.Goals as goal

pub invariant_of-self : goal.invariant_of-self
invariant_of-self g c =
    let within : c.args.core < length c.self.inside.row.items = grind (arith, common_steps) in
    cores_set _ _ _ _ _ _ _ _ _ c.self.invariant within c.index_mut-runner.ensures.value c.step.ensures.core

pub returns-clause-core : goal.returns-clause-core
returns-clause-core g c =
    let within : c.args.core < length c.self.inside.row.items = grind (arith, common_steps) in
    let step = pair_step c.args.memory.now c.args.flights.now.slots c.args.core c.args.limit in
    let f : Core → Option Occupant = λ r. option_map (λ h. with_pair h (step (pair_in r h)).pair) r.held in
    row_left _ _ _ _ _ _ _ _ f _ c.self.invariant c.self.view_is within c.index_mut-runner.ensures.value c.step.ensures.core

pub step-requires : goal.step-requires
step-requires g c =
    let within : c.args.core < length c.self.inside.row.items = grind (arith, common_steps) in
    subst (λ (r : Core). CanStepHeld c.args.limit r r.held) (sym (core_at _ _ _ _ _ _ _ _ c.self.invariant c.self.view_is within c.index_mut-runner.ensures.value)) c.requires.runs

pub returns-clause-reply : goal.returns-clause-reply
returns-clause-reply g c =
    let within : c.args.core < length c.self.inside.row.items = grind (arith, common_steps) in
    let step = pair_step c.args.memory.now c.args.flights.now.slots c.args.core c.args.limit in
    c.step.ensures.reply
    ∙ ap (λ (r : Core). option_map (λ h. (step (pair_in r h)).reply) r.held)
    (core_at _ _ _ _ _ _ _ _ c.self.invariant c.self.view_is within c.index_mut-runner.ensures.value)
