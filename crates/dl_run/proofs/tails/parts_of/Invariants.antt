use Rattle.std.proofs.Common.{◌≡◌, All, take}
use Rattle.dl_run.specs.Tails.{AreWords}
use Rattle.dl_run.proofs.tails.parts_of.Given as goal

abbrev pub invariant-loop-number : goal.invariant-loop-number
invariant-loop-number l = (l.parts ≡ take l.number l.threads) × All AreWords l.parts
