use Rattle.std.proofs.Common.{◌≡◌, take}
use Rattle.dl_tail.proofs.later.inputs_again.Given as goal

abbrev pub invariant-loop-input : goal.invariant-loop-input
invariant-loop-input l = l.copy ≡ take l.input-index l.inputs
