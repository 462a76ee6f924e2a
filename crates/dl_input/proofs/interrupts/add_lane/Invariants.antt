use Rattle.std.proofs.Common.{◌≡◌, ◌++◌, map, take}
use Rattle.dl_input.specs.Tracked.{tracked_of, interrupt_of}
use Rattle.dl_input.proofs.interrupts.add_lane.Given as goal

abbrev pub invariant-loop-mark : goal.invariant-loop-mark
invariant-loop-mark l = l.list ≡ l.fn.list ++ map interrupt_of (map (tracked_of l.thread) (take l.mark-index l.lane))
