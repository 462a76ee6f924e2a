use Rattle.std.proofs.Common.{◌≡◌, ◌++◌, map, take}
use Rattle.dl_mode.specs.ThreadSizes.{short_of}
use Rattle.dl_mode.proofs.thread_sizes.add_lane.Given as goal

abbrev pub invariant-loop-mark : goal.invariant-loop-mark
invariant-loop-mark l = l.list ≡ l.fn.list ++ map (short_of l.thread) (take l.mark-index l.lane)
