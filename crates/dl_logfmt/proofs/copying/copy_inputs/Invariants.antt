use Rattle.std.proofs.Common.{◌≡◌, take}
use Rattle.dl_logfmt.proofs.copying.copy_inputs.Given as goal

-- those so far are copied
abbrev pub invariant-loop-input : goal.invariant-loop-input
invariant-loop-input l = l.copy ≡ take l.input-index l.inputs
