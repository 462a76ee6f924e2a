use Rattle.std.proofs.Common.{◌≡◌, take}
use Rattle.dl_replay.proofs.copying.inputs_of.Given as goal

abbrev pub invariant-loop-input : goal.invariant-loop-input
invariant-loop-input l = l.inputs.inputs ≡ take l.input-index l.list
