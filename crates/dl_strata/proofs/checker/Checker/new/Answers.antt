use Rattle.std.proofs.Common.{◌≡◌, ◌/◌, length, ap, ◌∙◌, arith}
use Rattle.std.proofs.lemmas.List.{length-replicate}
use Rattle.spec_strata.specs.declared.touch.Touch.TheVariants.{Untouched}
use Rattle.dl_strata.specs.Tables.{Table}
use Rattle.dl_strata.proofs.checker.Checker.new.Goals as goal

pub returns-clause-words : goal.returns-clause-words
returns-clause-words c =
    let words : length c.in_ok-new.field-0.touches ≡ length c.bytes.result.now / 4 =
    ap (λ (t : Table). length t.touches) c.in_ok-new.ensures ∙ length-replicate (length c.bytes.result.now / 4) Untouched in
    let same = ap (λ xs. length xs) c.bytes.ensures.value in
    let whole = c.bytes.ensures.image.whole in
    let pages = c.bytes.ensures.image.size.pages in
    omega (arith, words, same, whole, pages)
