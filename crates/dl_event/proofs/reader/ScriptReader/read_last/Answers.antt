use Rattle.std.proofs.Common.{◌≡◌, ◌≢◌, ℕ, List, ◌∷◌, [], length, Ok, ap, sym, ◌∙◌}
use Rattle.std.proofs.lemmas.Result.{err_from_is_err_and}
use Rattle.std.specs.List.{AllWithin}
use Rattle.dl_event.specs.declared.line.Line.{Line}
use Rattle.dl_event.specs.Line.{line_of}
use Rattle.dl_event.specs.Script.{lines_of}
use Rattle.dl_event.specs.Reading.{SoFar}
use Rattle.dl_event.proofs.Reading.{line-alone, last_left, all_read}
use Rattle.dl_event.proofs.reader.ScriptReader.read_last.Goals as goal

-- a text with no LF is this one line
alone : (text : List ℕ) {line : Line} → AllWithin (λ byte. byte ≢ 10) text 0 (length text) → line ≡ line_of text → lines_of text ≡ line ∷ []
alone text none is = line-alone text none ∙ ap (λ line. line ∷ []) (sym is)

pub returns-in_err-take_line-clause-refused : goal.returns-in_err-take_line-clause-refused
returns-in_err-take_line-clause-refused c =
    let p = err_from_is_err_and c.from_residual.result c.from_residual.ensures.1 in
    rw (p.1, p.2) (λ script to.
    let last = last_left script c.args.line.now c.args.self c.read_line.result to (alone c.args.line.now c.requires.no_lf c.read_line.ensures) in
    c.in_err-take_line.ensures.refused (lines_of script) to.read last.0)

pub returns-clause-read : goal.returns-clause-read
returns-clause-read c = λ script to.
    let last = last_left script c.args.line.now c.args.self c.read_line.result to (alone c.args.line.now c.requires.no_lf c.read_line.ensures) in
    let read = c.in_ok-take_line.ensures.read (lines_of script) to.read last.0 in
    all_read (lines_of script) _ _ read (c.in_ok-take_line.ensures.lines ∙ last.1)
    ∙ ap (λ (r : SoFar). Ok r.events) (sym c.self.view_is)
