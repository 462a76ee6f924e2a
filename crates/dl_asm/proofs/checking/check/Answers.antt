use Rattle.std.proofs.Common.{◌≡◌, ◌∙◌, ◌+◌, cond, Option, Some, None, sym, ap, arith}
use Rattle.dl_asm.specs.declared.error.Rule.{Rule}
use Rattle.dl_asm.specs.Seen.{seen}
use Rattle.dl_asm.specs.Lines as lines
use Rattle.dl_asm.specs.Sources.{broken, broken_by, statement_said, statement_by, number_of}
use Rattle.dl_asm.proofs.Numbers.Statements.{short}
use Rattle.dl_asm.proofs.checking.check.Goals as goal

pub returns-in-Misspelled-clause-answer : goal.returns-in-Misspelled-clause-answer
unfolding broken
returns-in-Misspelled-clause-answer c = λ places is. ap (λ l. broken c.args.here places c.args.twice (seen l)) c.in-Misspelled.is

pub returns-in-Unknown-clause-answer : goal.returns-in-Unknown-clause-answer
unfolding broken
returns-in-Unknown-clause-answer c = λ places is. ap (λ l. broken c.args.here places c.args.twice (seen l)) c.in-Unknown.is

pub returns-in-Unfit-clause-answer : goal.returns-in-Unfit-clause-answer
unfolding broken
returns-in-Unfit-clause-answer c = λ places is. ap (λ l. broken c.args.here places c.args.twice (seen l)) c.in-Unfit.is

pub returns-in-Nothing-clause-answer : goal.returns-in-Nothing-clause-answer
unfolding broken
returns-in-Nothing-clause-answer c = λ places is.
    ap (λ l. broken c.args.here places c.args.twice (seen l)) c.in-Nothing.is ∙ ap (λ b. broken c.args.here places b lines.Nothing) c.if-twice.true

pub returns-in-Nothing-2-clause-answer : goal.returns-in-Nothing-2-clause-answer
unfolding broken statement_said
returns-in-Nothing-2-clause-answer c = λ places is.
    let fits = short (c.args.here + 0) (omega arith) in (
      ap (λ l. broken c.args.here places c.args.twice (seen l)) c.in-Nothing.is ∙ ap (λ b. broken c.args.here places b lines.Nothing) c.if-twice.false
          ∙ ap (λ b. cond {A = Option Rule} b (Some Rule.TooLong) None) fits,
      sym (ap (λ l. statement_said c.args.here places (seen l)) c.in-Nothing.is),
    )

pub returns-in-Err-clause-answer : goal.returns-in-Err-clause-answer
unfolding broken
returns-in-Err-clause-answer c = λ places is.
    let value = c.in-Says.value.now in
    let line = lines.Says c.in-Says.form c.in-Says.registers value in
    let exact = number_of c.in-Says.form c.args.here (places value) value in
    let answer = c.in-Err.ensures.answer exact c.in-Says.registers value (c.number-number.ensures places is) in
    let counted : c.count.result ≡ lines.count_said line = c.count.ensures.value ∙ ap (λ l. lines.count_said (seen l)) c.in-Says.is in
    ap (λ l. broken c.args.here places c.args.twice (seen l)) c.in-Says.is
    ∙ ap (λ n. broken_by line exact c.args.twice (c.args.here + n)) (sym counted) ∙ answer

pub returns-in-Ok-clause-answer : goal.returns-in-Ok-clause-answer
unfolding broken statement_said
returns-in-Ok-clause-answer c = λ places is.
    let value = c.in-Says.value.now in
    let line = lines.Says c.in-Says.form c.in-Says.registers value in
    let exact = number_of c.in-Says.form c.args.here (places value) value in
    let answer = c.in-Ok.ensures.answer exact c.in-Says.registers value (c.number-number.ensures places is) in
    let counted : c.count.result ≡ lines.count_said line = c.count.ensures.value ∙ ap (λ l. lines.count_said (seen l)) c.in-Says.is in (
      ap (λ l. broken c.args.here places c.args.twice (seen l)) c.in-Says.is
          ∙ ap (λ n. broken_by line exact c.args.twice (c.args.here + n)) (sym counted) ∙ answer.0,
      sym (ap (λ l. statement_said c.args.here places (seen l)) c.in-Says.is ∙ ap (statement_by line) answer.1),
    )
