use Rattle.spec_tail.specs.Playing.{begun}
use Rattle.dl_serial.proofs.Recounted.{AreCounted}
use Rattle.dl_serial.proofs.tails.add_begun.Given as goal

abbrev pub invariant-loop-number : goal.invariant-loop-number
invariant-loop-number l = AreCounted (begun l.tail.threads) l.fn.threads l.threads l.number
