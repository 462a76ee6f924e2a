use Rattle.dl_serial.proofs.AtBase.{AreRaised}
use Rattle.dl_serial.proofs.raising.raise.Given as goal

abbrev pub invariant-loop-number : goal.invariant-loop-number
invariant-loop-number l = AreRaised l.tail.threads l.tail.log.interrupts l.threads l.number l.count
