use Rattle.std.proofs.Common.{◌≡◌, map, take}
use Rattle.dl_input.specs.Tracked.{interrupt_of}
use Rattle.dl_replay.proofs.copying.interrupts_of.Given as goal

abbrev pub invariant-loop-interrupt : goal.invariant-loop-interrupt
invariant-loop-interrupt l = map interrupt_of l.interrupts.entries ≡ take l.interrupt-index l.list
