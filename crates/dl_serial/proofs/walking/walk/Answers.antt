use Rattle.std.proofs.Common.{◌≡◌, ◌∙◌, List, IfOk, subst, ap, arith}
use Rattle.spec_play.specs.States.{State, state_after}
use Rattle.spec_play.specs.Walks as play
use Rattle.spec_query.specs.declared.Store.{Store}
use Rattle.dl_kernel.specs.States.{state_in}
use Rattle.dl_serial.specs.Walked.{walked_in}
use Rattle.dl_serial.proofs.Resumed.{first-left, first-state, first-stores, first-walked}
use Rattle.dl_serial.proofs.walking.walk.Goals as goal

pub play_from-requires-clause-state : goal.play_from-requires-clause-state
play_from-requires-clause-state c =
    let log = c.args.log.now in
    let i = c.args.image.now in
    let is : state_in c.first-state.result ≡ state_after log i.bytes i.entry 0 =
    c.first-state.ensures log ∙ (λ x. state_after log (c.in_ok-new.ensures x) (c.entry.ensures.value x) 0)
    in
    first-state log i.bytes i.entry (state_in c.first-state.result) is

pub play_from-requires-clause-order : goal.play_from-requires-clause-order
play_from-requires-clause-order c = omega (arith, ap (λ (s : State). s.commits) (c.first-state.ensures c.args.log.now))

pub returns-clause-walked : goal.returns-clause-walked
returns-clause-walked c =
    let log = c.args.log.now in
    let i = c.args.image.now in
    let is : state_in c.first-state.result ≡ state_after log i.bytes i.entry 0 =
    c.first-state.ensures log ∙ (λ x. state_after log (c.in_ok-new.ensures x) (c.entry.ensures.value x) 0)
    in
    subst (λ (v : play.Walked). IfOk c.play_from.result (λ w. walked_in w ≡ v)) (first-walked log i.bytes i.entry c.args.to (state_in c.first-state.result) is) c.play_from.ensures.walked

pub returns-clause-stores : goal.returns-clause-stores
returns-clause-stores c =
    let log = c.args.log.now in
    let i = c.args.image.now in
    let is : state_in c.first-state.result ≡ state_after log i.bytes i.entry 0 =
    c.first-state.ensures log ∙ (λ x. state_after log (c.in_ok-new.ensures x) (c.entry.ensures.value x) 0)
    in
    subst (λ (ss : List Store). IfOk c.play_from.result (λ w. w.stores ≡ ss)) (first-stores log i.bytes i.entry c.args.to (state_in c.first-state.result) is) c.play_from.ensures.stores

pub returns-clause-state : goal.returns-clause-state
returns-clause-state c =
    let log = c.args.log.now in
    let i = c.args.image.now in
    let is : state_in c.first-state.result ≡ state_after log i.bytes i.entry 0 =
    c.first-state.ensures log ∙ (λ x. state_after log (c.in_ok-new.ensures x) (c.entry.ensures.value x) 0)
    in
    subst (λ (s : State). IfOk c.play_from.result (λ w. state_in w.state ≡ s)) (first-left log i.bytes i.entry c.args.to (state_in c.first-state.result) is) c.play_from.ensures.state
