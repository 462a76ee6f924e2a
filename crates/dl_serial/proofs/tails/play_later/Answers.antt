use Rattle.std.proofs.Common.{◌≡◌, Bool, sym, ap, ◌∙◌}
use Rattle.spec_play.specs.Walks as play
use Rattle.spec_play.specs.States.{state_of}
use Rattle.spec_play.specs.Walks.{walked_at}
use Rattle.dl_kernel.specs.States.{state_in}
use Rattle.dl_serial.specs.declared.walked.Walked.{Walked}
use Rattle.dl_serial.specs.Tails.{played_from}
use Rattle.dl_serial.specs.Walked.{walked_in}
use Rattle.dl_serial.proofs.Stopped.{stopped-walk, stopped-state}
use Rattle.dl_serial.proofs.tails.play_later.Goals as goal

pub returns-then-refused-clause-walked : goal.returns-then-refused-clause-walked
returns-then-refused-clause-walked c =
    let log = c.args.log.now in
    let s = state_in c.args.state in
    ap walked_in c.stopped.ensures
    ∙ sym (stopped-walk log s)
    ∙ sym (ap (λ (b : Bool). walked_at log log.count (played_from log s b)) c.if-refused.true)

pub returns-then-refused-clause-state : goal.returns-then-refused-clause-state
returns-then-refused-clause-state c =
    let log = c.args.log.now in
    let s = state_in c.args.state in
    ap (λ (w : Walked). state_in w.state) c.stopped.ensures
    ∙ sym (stopped-state log s)
    ∙ sym (ap (λ (b : Bool). state_of (played_from log s b)) c.if-refused.true)
