use Rattle.std.proofs.Common.{◌∙◌, sym, ap, cond}
use Rattle.dl_asm.specs.Numbers.{number_in}
use Rattle.dl_asm.specs.Lines.{zeros_capped}
use Rattle.dl_asm.proofs.Numbers.Ranges.{zeros-capped}
use Rattle.dl_asm.proofs.line.zeros.Goals as goal

pub returns-in-Some-clause-value : goal.returns-in-Some-clause-value
returns-in-Some-clause-value c =
    sym (ap (λ b. cond b c.in-Some.number.magnitude 0) (sym c.within.ensures ∙ c.if-within.true)) ∙ ap zeros_capped c.in-Some.ensures ∙ zeros-capped (number_in c.args.value.now)

pub returns-in_default-clause-value : goal.returns-in_default-clause-value
returns-in_default-clause-value c =
    sym (ap (λ b. cond b c.in-Some.number.magnitude 0) (sym c.within.ensures ∙ c.if-within.false)) ∙ ap zeros_capped c.in-Some.ensures ∙ zeros-capped (number_in c.args.value.now)
