use Rattle.dl_asm.specs.Operands.{operands_in}
use Rattle.dl_asm.proofs.Texts.Operands.{two-of-more}
use Rattle.dl_asm.proofs.operands.two.Goals as goal

pub returns-in-Some : goal.returns-in-Some
returns-in-Some c =
    let first = rw c.in_ok-rest.was at c.first_operand.ensures in
    let second = rw c.in-Some.is at c.first_operand-2.ensures in
    two-of-more (operands_in c.args.text.now) _ _ c.in_ok-rest.field-0.now c.in-Some.field-0.now first second
