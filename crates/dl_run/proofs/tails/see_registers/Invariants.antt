use Rattle.std.proofs.Common.{◌<◌, ◌^◌, All, take}
use Rattle.dl_run.proofs.tails.see_registers.Given as goal

abbrev pub invariant-loop-register : goal.invariant-loop-register
invariant-loop-register l = All (λ word. word < 2 ^ 32) (take l.register-index l.registers)
