use Rattle.std.proofs.Common.{◌≡◌, ap, ◌∙◌}
use Rattle.spec_play.specs.declared.used.Used.{Used}
use Rattle.spec_play.specs.States.{State}
use Rattle.spec_play.specs.Walks as play
use Rattle.dl_kernel.specs.States.{state_in}
use Rattle.dl_serial.specs.Tails.{raised_in, state_since}
use Rattle.dl_serial.specs.Walked.{walked_in}
use Rattle.dl_serial.proofs.Stopped.{goes-on, later-ends, later-few, later-passed, later-state, later-walk}
use Rattle.dl_serial.proofs.tails.walk_tail.Goals as goal

pub play_later-requires-clause-state : goal.play_later-requires-clause-state
play_later-requires-clause-state c =
    goes-on c.args.tail.now c.in_ok-log.log (raised_in c.raise-raised.result) c.dmas_passed-passed.result (state_in c.in_ok-state.state) c.raise-raised.ensures.tail c.in_ok-log.ensures c.raise-raised.ensures.raised c.dmas_passed-passed.ensures c.in_ok-state.ensures

pub used_of_tail-walked-requires-clause-few : goal.used_of_tail-walked-requires-clause-few
used_of_tail-walked-requires-clause-few c =
    later-few c.args.tail.now c.in_ok-log.log (raised_in c.raise-raised.result) c.dmas_passed-passed.result (state_in c.in_ok-state.state) c.raise-raised.ensures.tail c.in_ok-log.ensures c.raise-raised.ensures.raised c.dmas_passed-passed.ensures c.in_ok-state.ensures (state_in c.in_ok-walked.walked.state) c.in_ok-walked.ensures.bounded

pub used_of_tail-walked-requires-clause-passed : goal.used_of_tail-walked-requires-clause-passed
used_of_tail-walked-requires-clause-passed c =
    later-passed c.args.tail.now c.in_ok-log.log (raised_in c.raise-raised.result) c.dmas_passed-passed.result (state_in c.in_ok-state.state) c.raise-raised.ensures.tail c.in_ok-log.ensures c.raise-raised.ensures.raised c.dmas_passed-passed.ensures c.in_ok-state.ensures (state_in c.in_ok-walked.walked.state) c.in_ok-walked.ensures.state

pub counted_from_start-requires-clause-end : goal.counted_from_start-requires-clause-end
counted_from_start-requires-clause-end c =
    later-ends c.args.tail.now c.in_ok-log.log (raised_in c.raise-raised.result) c.dmas_passed-passed.result (state_in c.in_ok-state.state) c.raise-raised.ensures.tail c.in_ok-log.ensures c.raise-raised.ensures.raised c.dmas_passed-passed.ensures c.in_ok-state.ensures c.in_ok-walked.walked.end
    (ap (λ (v : play.Walked). v.end) c.in_ok-walked.ensures.walked)

pub returns-clause-walked : goal.returns-clause-walked
returns-clause-walked c =
    c.counted_from_start.ensures.walked
    ∙ later-walk c.args.tail.now c.in_ok-log.log (raised_in c.raise-raised.result) c.dmas_passed-passed.result (state_in c.in_ok-state.state) c.raise-raised.ensures.tail c.in_ok-log.ensures c.raise-raised.ensures.raised c.dmas_passed-passed.ensures c.in_ok-state.ensures (walked_in c.in_ok-walked.walked) c.in_ok-walked.walked.state.used c.has_more_left-left.result c.in_ok-walked.ensures.walked (ap (λ (s : State). s.used) c.in_ok-walked.ensures.state) c.has_more_left-left.ensures

pub returns-clause-state : goal.returns-clause-state
returns-clause-state c =
    c.counted_from_start.ensures.state
    ∙ ap (λ (u : Used). state_since c.args.tail.now (record (state_in c.in_ok-walked.walked.state) { used = u })) c.used_of_tail-walked.ensures
    ∙ later-state c.args.tail.now c.in_ok-log.log (raised_in c.raise-raised.result) c.dmas_passed-passed.result (state_in c.in_ok-state.state) c.raise-raised.ensures.tail c.in_ok-log.ensures c.raise-raised.ensures.raised c.dmas_passed-passed.ensures c.in_ok-state.ensures (state_in c.in_ok-walked.walked.state) c.in_ok-walked.ensures.state
