use Rattle.std.proofs.Common.{◌≡◌, ◌∙◌, ◌++◌, List, [], None, codes, ap, refl}
use Rattle.std.proofs.lemmas.Result.{IfOk-weaker}
use Rattle.dl_run.specs.Ran.{IsOver}
use Rattle.spec_protocol.specs.declared.event.Event.{Event}
use Rattle.spec_log.specs.declared.ModeName.{ModeName}
use Rattle.spec_protocol.specs.machine.Machine.{Setup}
use Rattle.spec_protocol.specs.promises.Sound.{image_at}
use Rattle.spec_run.specs.Texts.{log_of_points, summary_text}
use Rattle.spec_program.specs.Drills.{drill_text, recording_events}
use Rattle.spec_program.specs.Lines.{line}
use Rattle.dl_drill.proofs.drilling.drill.Goals as goal

pub recording-requires-clause-recorded : goal.recording-requires-clause-recorded
recording-requires-clause-recorded c = (record { version = 1; mode = ModeName.OrderOnly; epochs = None }, ap (λ (s : Setup). (image_at s 0).role) c.in_ok-recorded.ensures.setup, refl)

pub replay-requires : goal.replay-requires
replay-requires c =
    let es = recording_events c.args.number in
    c.in_ok-log.ensures es (record { version = 1; mode = ModeName.OrderOnly; epochs = None }) c.in_ok-recorded.ensures.over (ap (λ (s : Setup). (image_at s 0).role) c.in_ok-recorded.ensures.setup) refl
    ∙ ap (λ (s : Setup). log_of_points s es 0 (record { version = 1; mode = ModeName.OrderOnly; epochs = None })) c.in_ok-recorded.ensures.setup

pub returns : goal.returns
returns c =
    let v = c.args.number in
    let one = c.in_ok-recorded.recorded in
    let two = c.in_ok-replayed.replayed in
    IfOk-weaker c.summaries.result
    (λ text. (es fs : List Event) → IsOver es one → IsOver fs two → text.items ≡ summary_text one.setup es ++ summary_text two.setup fs ++ line (codes "equal"))
    (λ text. text.items ≡ drill_text v)
    (λ text e.
    e (recording_events v) [] c.in_ok-recorded.ensures.over c.in_ok-replayed.ensures.over
    ∙ (λ i. summary_text (c.in_ok-recorded.ensures.setup i) (recording_events v) ++ summary_text (c.in_ok-replayed.ensures.setup i) [] ++ line (codes "equal")))
    c.summaries.ensures
