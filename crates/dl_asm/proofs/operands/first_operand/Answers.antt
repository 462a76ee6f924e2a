use Rattle.dl_asm.proofs.Texts.Operands.{operands-one, operands-more}
use Rattle.dl_asm.proofs.operands.first_operand.Goals as goal

pub returns-in-Some : goal.returns-in-Some
returns-in-Some c = let more = operands-more c.args.text.now c.in-Some.ensures.0 in rw (c.trimmed.ensures, c.in-Some.ensures.1, c.in-Some.ensures.2) more

pub returns-in-None : goal.returns-in-None
returns-in-None c = rw (c.trimmed-in-None.ensures) (operands-one c.args.text.now c.in-None.ensures)
