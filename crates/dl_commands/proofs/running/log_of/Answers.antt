use Rattle.std.proofs.Common.{◌≡◌, ◌∙◌, Option, None, Some, Ok, ap, sym, subst}
use Rattle.std.proofs.lemmas.Option.{none-some, same_Some}
use Rattle.dl_run.specs.declared.texts.SphereLog.{SphereLog}
use Rattle.dl_run.specs.Logs.{bytes_of}
use Rattle.spec_run.specs.Tails.{tail_of_points}
use Rattle.spec_run.specs.Texts.{log_text}
use Rattle.spec_tail.specs.Reading.{read_of}
use Rattle.spec_tail.specs.Tails.{Tail}
use Rattle.dl_commands.proofs.running.log_of.Goals as goal

-- the tail that a log is
abbrev kept : SphereLog → Option Tail
kept SphereLog.None = None
kept (SphereLog.Whole log) = None
kept (SphereLog.Tail tail) = Some tail

pub returns-in-None-clause-tail : goal.returns-in-None-clause-tail
returns-in-None-clause-tail c = λ es over asked x is some.
    let t : Tail = tail_of_points c.args.run.now.setup es c.args.sphere asked x in
    let tail : c.in_ok-log.field-0 ≡ SphereLog.Tail t = c.in_ok-log.ensures.tail es asked x over is some in
    absurd (none-some t (ap kept (sym c.in-None.is) ∙ ap kept tail))

pub returns-in_ok-bytes_of-in-Tail-clause-tail : goal.returns-in_ok-bytes_of-in-Tail-clause-tail
returns-in_ok-bytes_of-in-Tail-clause-tail c = λ es over asked x is some.
    let made = c.in_ok-bytes_of-in-Tail in
    let text = log_text c.args.run.now.setup es c.args.sphere in
    let t : Tail = tail_of_points c.args.run.now.setup es c.args.sphere asked x in
    let tail : c.in_ok-log.field-0 ≡ SphereLog.Tail t = c.in_ok-log.ensures.tail es asked x over is some in
    let same : Some c.in-Tail.tail ≡ Some t = ap kept (sym c.in-Tail.is ∙ tail) in
    let bytes : text ≡ made.field-0.items = sym (c.in_ok-log.ensures.bytes es over) ∙ ap bytes_of c.in-Tail.is ∙ sym made.ensures.bytes in
    subst (λ (y : Tail). read_of text ≡ Ok y) (same_Some c.in-Tail.tail t same) (ap read_of bytes ∙ made.ensures.again)
