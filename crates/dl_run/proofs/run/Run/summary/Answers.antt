use Rattle.std.proofs.Common.{◌∙◌, ◌≡◌, List, ap}
use Rattle.std.proofs.lemmas.Result.{IfOk-weaker}
use Rattle.dl_account.specs.Summary.{summary_of}
use Rattle.spec_protocol.specs.declared.event.Event.{Event}
use Rattle.spec_run.specs.Texts.{summary_text}
use Rattle.dl_run.specs.Ran.{Ran, IsOver}
use Rattle.dl_run.proofs.Over.{summary-is}
use Rattle.dl_run.proofs.run.Run.summary.Goals as goal

pub returns : goal.returns
returns c =
    let r = c.args.self.now in
    let counts = c.counts.ensures.value ∙ ap (λ (x : Ran). x.world.counts) c.self.view_is in
    let lines = c.deref.ensures.value in
    IfOk-weaker c.summary_text.result
    (λ text. text.items ≡ summary_of c.counts.result.now c.deref.result.now)
    (λ text. (es : List Event) → IsOver es r → text.items ≡ summary_text r.setup es)
    (λ text e es over.
    e
    ∙ (λ j. summary_of (counts j) (lines j))
    ∙ summary-is es r c.in_ok-lines.lines.items over (c.in_ok-lines.ensures es over))
    c.summary_text.ensures
