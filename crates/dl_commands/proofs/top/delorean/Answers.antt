use Rattle.std.proofs.Common.{◌∙◌, ap, inl, inr, refl, subst}
use Rattle.dl_files.specs.Seen.{Seen, FailsOnce}
use Rattle.dl_words.specs.Commands.{Run, command_of}
use Rattle.spec_program.specs.Asked.{outcome_of, reads_of}
use Rattle.spec_program.specs.Ends.{is_refusal}
use Rattle.spec_program.specs.Outside.{outside}
use Rattle.dl_commands.specs.Jobs.{finish_of, writes_of}
use Rattle.dl_commands.specs.Performed.{IsPerformed}
use Rattle.dl_commands.specs.Texts.{texts}
use Rattle.dl_commands.specs.Untold.{IsOwn, MaySay}
use Rattle.dl_commands.proofs.Finishing.{done_is, drill_halted, drill_performed, performed_fault, performed_short, performed_stands, performed_unread, performed_unrefused, stopped_fault, stopped_short, halted_absent, halted_kept, halted_line, halted_once, halted_stands, stopped_undone, stopped_usage}
use Rattle.dl_commands.proofs.Growing.{performed_done, performed_took, stopped_took}
use Rattle.dl_commands.proofs.Untold.{own_if}
use Rattle.dl_commands.proofs.top.delorean.Goals as goal

-- ---- a command that is computed, and then done

pub returns-in-Ok-clause-stands : goal.returns-in-Ok-clause-stands
returns-in-Ok-clause-stands g c =
    λ m e.
    performed_stands (outcome_of (texts c.args.words.now) m) c.in-Ok.job (reads_of (texts c.args.words.now) m) m _ _ c.perform.result (c.in-Ok.ensures.job m e) e
    (subst (λ (s : Seen). IsPerformed c.in-Ok.job.diverged (writes_of c.in-Ok.job.writes.items) c.in-Ok.job.text.items (outside s (g.O.Sink.taken c.args.out.now) (g.O.Sink.count c.args.out.now)) (outside (g.F.Files.seen c.perform.new.files) (g.O.Sink.taken c.perform.new.out) (g.O.Sink.count c.perform.new.out)) c.perform.result) c.in-Ok.ensures.same c.perform.ensures.ends)

pub returns-in-Ok-clause-done : goal.returns-in-Ok-clause-done
returns-in-Ok-clause-done g c =
    λ command m asks e done.
    done_is (texts c.args.words.now) m _ _ c.perform.result command c.in-Ok.job asks (λ plan runs. c.in-Ok.ensures.limits plan m runs e refl) (c.in-Ok.ensures.job m e) (returns-in-Ok-clause-stands g c m e) done

pub returns-in-Ok-clause-headline : goal.returns-in-Ok-clause-headline
returns-in-Ok-clause-headline g c = λ plan m asks e done. returns-in-Ok-clause-done g c (Run plan) m asks e done

pub returns-in-Ok-clause-drill : goal.returns-in-Ok-clause-drill
returns-in-Ok-clause-drill g c = λ number asks.
    let done = drill_performed number c.in-Ok.job _ _ c.perform.result (c.in-Ok.ensures.drill number asks).0 c.perform.ensures.ends in
    (done.0, done.1 ∙ ap (λ (s : Seen). s.faults) c.in-Ok.ensures.same, done.2 ∙ ap (λ (s : Seen). s.changes) c.in-Ok.ensures.same)

pub returns-in-Ok-clause-fault_said : goal.returns-in-Ok-clause-fault_said
returns-in-Ok-clause-fault_said g c = λ e.
    let words = texts c.args.words.now in
    let known = (g.F.Files.seen c.args.files.now).known in
    performed_fault (IsOwn words known) _ _ _ _ _ c.perform.result (λ name is. inr (own_if known (command_of words) (finish_of c.in-Ok.job) c.in-Ok.ensures.may name is)) c.perform.ensures.ends e

pub returns-in-Ok-clause-memory_said : goal.returns-in-Ok-clause-memory_said
returns-in-Ok-clause-memory_said g c =
    λ e failed.
    let words = texts c.args.words.now in
    let known = (g.F.Files.seen c.args.files.now).known in
    performed_short (IsOwn words known) _ _ _ _ _ c.perform.result (λ name is. inr (own_if known (command_of words) (finish_of c.in-Ok.job) c.in-Ok.ensures.may name is)) c.perform.ensures.ends (λ same. failed (same ∙ ap (λ (s : Seen). s.faults) c.in-Ok.ensures.same))

pub returns-in-Ok-clause-once : goal.returns-in-Ok-clause-once
returns-in-Ok-clause-once g c = subst (λ (s : Seen). FailsOnce s (g.F.Files.seen c.perform.new.files)) c.in-Ok.ensures.same c.perform.ensures.once

pub returns-in-Ok-clause-said : goal.returns-in-Ok-clause-said
returns-in-Ok-clause-said g c =
    let words = texts c.args.words.now in
    let known = (g.F.Files.seen c.args.files.now).known in
    let job = c.in-Ok.job in
    let may = c.in-Ok.ensures.may in
    performed_took (MaySay words known) _ _ _ _ _ c.perform.result (inl (finish_of job, may, refl))
    (λ name is. inr (inr (name, inr (own_if known (command_of words) (finish_of job) may name is), refl))) c.perform.ensures.ends

pub returns-in-Ok-clause-may : goal.returns-in-Ok-clause-may
returns-in-Ok-clause-may g c = λ done.
    let whole = performed_done _ _ _ _ _ c.perform.result c.perform.ensures.ends done in
    (finish_of c.in-Ok.job, c.in-Ok.ensures.may, whole.0, whole.1)

pub returns-in-Ok-clause-no_command_said : goal.returns-in-Ok-clause-no_command_said
returns-in-Ok-clause-no_command_said g c = λ none. absurd (c.in-Ok.ensures.command refl none)

pub returns-in-Ok-clause-absent_said : goal.returns-in-Ok-clause-absent_said
returns-in-Ok-clause-absent_said g c = λ e. absurd (performed_unrefused _ _ _ _ _ c.perform.result c.perform.ensures.ends (ap is_refusal e))

pub returns-in-Ok-clause-line : goal.returns-in-Ok-clause-line
returns-in-Ok-clause-line g c = λ e. absurd (performed_unrefused _ _ _ _ _ c.perform.result c.perform.ensures.ends e)

pub returns-in-Ok-clause-refused_kept : goal.returns-in-Ok-clause-refused_kept
returns-in-Ok-clause-refused_kept g c = λ e. absurd (performed_unrefused _ _ _ _ _ c.perform.result c.perform.ensures.ends e)

pub returns-in-Ok-clause-unread_kept : goal.returns-in-Ok-clause-unread_kept
returns-in-Ok-clause-unread_kept g c = λ n. absurd (n (performed_unread _ _ _ _ _ c.perform.result c.perform.ensures.ends ∙ ap (λ (s : Seen). s.unread) c.in-Ok.ensures.same))

-- ---- a command that halts

pub returns-in-Err-clause-stands : goal.returns-in-Err-clause-stands
returns-in-Err-clause-stands g c =
    λ m e.
    halted_stands _ _ _ _ _ _ (outcome_of (texts c.args.words.now)) (reads_of (texts c.args.words.now)) m c.in-Err.halt c.stop.result e c.in-Err.ensures.halt c.stop.ensures

pub returns-in-Err-clause-headline : goal.returns-in-Err-clause-headline
returns-in-Err-clause-headline g c = λ plan m asks e done. absurd (stopped_undone _ _ _ _ c.stop.result c.in-Err.halt c.stop.ensures done)

pub returns-in-Err-clause-done : goal.returns-in-Err-clause-done
returns-in-Err-clause-done g c = λ command m asks e done. absurd (stopped_undone _ _ _ _ c.stop.result c.in-Err.halt c.stop.ensures done)

pub returns-in-Err-clause-drill : goal.returns-in-Err-clause-drill
returns-in-Err-clause-drill g c = λ number asks.
    let drill = c.in-Err.ensures.drill number asks in
    (drill_halted c.in-Err.halt _ _ _ _ c.stop.result drill.0 c.stop.ensures, ap (λ (s : Seen). s.faults) drill.1, ap (λ (s : Seen). s.changes) drill.1)

pub returns-in-Err-clause-fault_said : goal.returns-in-Err-clause-fault_said
returns-in-Err-clause-fault_said g c = λ e.
    let fault = stopped_fault _ _ _ _ c.stop.result _ _ _ _ c.in-Err.halt c.in-Err.ensures.halt c.stop.ensures e in
    (fault.0, inl fault.1, fault.2, fault.3)

pub returns-in-Err-clause-said : goal.returns-in-Err-clause-said
returns-in-Err-clause-said g c =
    let words = texts c.args.words.now in
    stopped_took (MaySay words (g.F.Files.seen c.args.files.now).known) (outcome_of words) (reads_of words) _ _ c.in-Err.halt _ _ _ _ c.stop.result
    (λ why line form. inr (inl (why, form))) (λ name is. inr (inr (name, inl is, refl))) c.in-Err.ensures.halt c.stop.ensures

pub returns-in-Err-clause-may : goal.returns-in-Err-clause-may
returns-in-Err-clause-may g c = λ done. absurd (stopped_undone _ _ _ _ c.stop.result c.in-Err.halt c.stop.ensures done)

pub returns-in-Err-clause-no_command_said : goal.returns-in-Err-clause-no_command_said
returns-in-Err-clause-no_command_said g c = λ none. stopped_usage _ _ _ _ c.stop.result (command_of (texts c.args.words.now)) c.in-Err.halt c.in-Err.ensures.usage c.stop.ensures none

pub returns-in-Err-clause-absent_said : goal.returns-in-Err-clause-absent_said
returns-in-Err-clause-absent_said g c = λ e. halted_absent _ _ _ _ _ _ _ _ c.in-Err.halt c.stop.result c.in-Err.ensures.halt c.stop.ensures e

pub returns-in-Err-clause-memory_said : goal.returns-in-Err-clause-memory_said
returns-in-Err-clause-memory_said g c = λ e failed.
    let short = stopped_short _ _ _ _ c.stop.result _ _ _ _ c.in-Err.halt c.in-Err.ensures.halt c.stop.ensures failed in
    (short.0, inl short.1, short.2, short.3)

pub returns-in-Err-clause-once : goal.returns-in-Err-clause-once
returns-in-Err-clause-once g c = halted_once _ _ (g.O.Sink.taken c.args.out.now) (g.O.Sink.taken c.args.out.now) 0 0 _ _ c.in-Err.halt c.in-Err.ensures.halt

pub returns-in-Err-clause-line : goal.returns-in-Err-clause-line
returns-in-Err-clause-line g c = λ e. halted_line _ _ _ _ _ _ _ _ c.in-Err.halt c.stop.result c.in-Err.ensures.halt c.stop.ensures e

pub returns-in-Err-clause-refused_kept : goal.returns-in-Err-clause-refused_kept
returns-in-Err-clause-refused_kept g c = λ e. (halted_kept _ _ (g.O.Sink.taken c.args.out.now) (g.O.Sink.taken c.args.out.now) 0 0 _ _ c.in-Err.halt c.in-Err.ensures.halt).changes

pub returns-in-Err-clause-unread_kept : goal.returns-in-Err-clause-unread_kept
returns-in-Err-clause-unread_kept g c = λ n. (halted_kept _ _ (g.O.Sink.taken c.args.out.now) (g.O.Sink.taken c.args.out.now) 0 0 _ _ c.in-Err.halt c.in-Err.ensures.halt).changes
