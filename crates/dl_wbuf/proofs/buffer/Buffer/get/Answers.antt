-- The byte of the stored word, or none, by where the word is.
use Rattle.std.proofs.Common.{◌/◌, refl, sym, ◌∙◌}
use Rattle.dl_wbuf.proofs.Lasts.{byte_held-last}
use Rattle.dl_wbuf.proofs.Places.{IsFound-place, IsMissing-place}
use Rattle.dl_wbuf.proofs.buffer.Buffer.get.Goals as goal

pub returns-in_err-i-clause-value : goal.returns-in_err-i-clause-value
returns-in_err-i-clause-value c =
    let missing = IsMissing-place c.args.self.now.words (c.args.byte / 4) (sym c.in_err-i.ensures.value) in
    c.from_residual.ensures ∙ sym (missing.byte c.args.byte refl)

pub returns-clause-value : goal.returns-clause-value
returns-clause-value c =
    let found = IsFound-place c.args.self.now.words (c.args.byte / 4) c.in_ok-i.i (sym c.in_ok-i.ensures.value) in
    rw (found.byte c.args.byte c.index.result.now refl, ← c.self.view_is, ← c.index.ensures) c.byte.ensures

pub returns-in_err-i-clause-last : goal.returns-in_err-i-clause-last
returns-in_err-i-clause-last c = λ stores e. returns-in_err-i-clause-value c ∙ byte_held-last c.args.self.now.words stores c.args.byte e

pub returns-clause-last : goal.returns-clause-last
returns-clause-last c = λ stores e. returns-clause-value c ∙ byte_held-last c.args.self.now.words stores c.args.byte e
