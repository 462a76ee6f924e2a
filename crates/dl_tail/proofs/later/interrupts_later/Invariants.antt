use Rattle.std.proofs.Common.{◌≡◌, take}
use Rattle.spec_tail.specs.Later as tail
use Rattle.dl_tail.proofs.later.interrupts_later.Given as goal

-- what stays of those so far
abbrev pub invariant-loop-interrupt : goal.invariant-loop-interrupt
invariant-loop-interrupt l = l.later ≡ tail.interrupts_later l.threads (take l.interrupt-index l.interrupts)
