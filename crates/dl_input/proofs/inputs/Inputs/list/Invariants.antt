use Rattle.std.proofs.Common.{◌≡◌, take}
use Rattle.dl_input.proofs.inputs.Inputs.list.Given as goal

abbrev pub invariant-loop-input : goal.invariant-loop-input
invariant-loop-input l = l.list ≡ take l.input-index l.self.inputs
