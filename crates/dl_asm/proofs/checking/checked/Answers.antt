use Rattle.std.proofs.Common.{◌≡◌, ◌∙◌, ◌<◌, ◌≤◌, true, false, sym, arith}
use Rattle.std.proofs.lemmas.Bool.Decides.{nat_tests}
use Rattle.dl_asm.specs.Sources.{is_too_long}
use Rattle.dl_asm.proofs.Numbers.Statements.{out-of-range, with-label, exact-number}
use Rattle.dl_asm.proofs.checking.checked.Goals as goal

pub returns-then-is_out_of_range-clause-answer : goal.returns-then-is_out_of_range-clause-answer
returns-then-is_out_of_range-clause-answer c = λ exact registers value e.
    let out = out-of-range c.args.form registers value exact c.args.number c.is_out_of_range.result e c.is_out_of_range.ensures.known c.is_out_of_range.ensures.unknown ∙ c.if-is_out_of_range.true in
    rw out

pub returns-then-twice-clause-answer : goal.returns-then-twice-clause-answer
returns-then-twice-clause-answer c = λ exact registers value e.
    let out = out-of-range c.args.form registers value exact c.args.number c.is_out_of_range.result e c.is_out_of_range.ensures.known c.is_out_of_range.ensures.unknown ∙ c.if-is_out_of_range.false in
    rw (out, c.if-twice.true)

pub returns-then-from-gt-MOST_WORDS-clause-answer : goal.returns-then-from-gt-MOST_WORDS-clause-answer
returns-then-from-gt-MOST_WORDS-clause-answer c = λ exact registers value e.
    let out = out-of-range c.args.form registers value exact c.args.number c.is_out_of_range.result e c.is_out_of_range.ensures.known c.is_out_of_range.ensures.unknown ∙ c.if-is_out_of_range.false in
    let label = with-label c.args.form registers value exact c.in-Some.number (sym c.in-Some.is ∙ e) in
    let over : 4194304 < c.args.words = omega arith in
    let long : is_too_long c.args.words ≡ true = grind (arith, nat_tests) in
    rw (out, c.if-twice.false, label, long)

pub returns-clause-answer : goal.returns-clause-answer
returns-clause-answer c = λ exact registers value e.
    let out = out-of-range c.args.form registers value exact c.args.number c.is_out_of_range.result e c.is_out_of_range.ensures.known c.is_out_of_range.ensures.unknown ∙ c.if-is_out_of_range.false in
    let label = with-label c.args.form registers value exact c.in-Some.number (sym c.in-Some.is ∙ e) in
    let under : c.args.words ≤ 4194304 = omega arith in
    let short : is_too_long c.args.words ≡ false = grind (arith, nat_tests) in
    (rw (out, c.if-twice.false, label, short), exact-number c.args.form registers value exact c.in-Some.number (sym c.in-Some.is ∙ e) out)
