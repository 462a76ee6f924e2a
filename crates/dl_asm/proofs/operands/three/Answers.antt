use Rattle.dl_asm.specs.Operands.{operands_in}
use Rattle.dl_asm.proofs.Texts.Operands.{three-of-more}
use Rattle.dl_asm.proofs.operands.three.Goals as goal

pub returns-in-Some : goal.returns-in-Some
returns-in-Some c =
    let first = rw c.in_ok-rest.was at c.first_operand.ensures in
    let second = rw c.in_ok-rest-2.was at c.first_operand-2.ensures in
    let third = rw c.in-Some.is at c.first_operand-3.ensures in
    three-of-more (operands_in c.args.text.now) _ _ _ c.in_ok-rest.field-0.now c.in_ok-rest-2.field-0.now c.in-Some.field-0.now first second third
