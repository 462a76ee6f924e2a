use Rattle.std.proofs.Common.{◌≡◌, List, [], IfOk, ◌∙◌, subst}
use Rattle.spec_play.specs.States.{State, resumed, state_after}
use Rattle.dl_kernel.specs.States.{state_in}
use Rattle.dl_serial.specs.Playing.{Playing}
use Rattle.dl_serial.proofs.Resumed.{can-go-on, first-state}
use Rattle.dl_serial.proofs.player.Player.first.Goals as goal

pub at-requires-clause-state : goal.at-requires-clause-state
at-requires-clause-state g c =
    let log = c.args.log.now in
    let i = c.args.image.now in
    can-go-on log (state_in c.first-state.result)
    (first-state log i.bytes i.entry (state_in c.first-state.result)
    (c.first-state.ensures log ∙ (λ x. state_after log (c.in_ok-memory.ensures x) (c.entry.ensures.value x) 0)))

pub returns : goal.returns
returns g c =
    let log = c.args.log.now in
    let i = c.args.image.now in
    let is : state_in c.first-state.result ≡ state_after log i.bytes i.entry 0 =
    c.first-state.ensures log ∙ (λ x. state_after log (c.in_ok-memory.ensures x) (c.entry.ensures.value x) 0)
    in
    subst (λ (s : State). IfOk c.at.result (λ p. let w : Playing = record { log = log; played = resumed log s; stores = [] } in p ≡ w)) is c.at.ensures
