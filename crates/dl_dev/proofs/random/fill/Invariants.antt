use Rattle.dl_dev.proofs.Filling.{IsFilled}
use Rattle.dl_dev.proofs.random.fill.Given as goal

abbrev pub invariant-loop-i : goal.invariant-loop-i
invariant-loop-i l = IsFilled l.fn.words l.i l.into l.words
