use Rattle.std.proofs.Common.{◌≡◌, ◌++◌, drop}
use Rattle.dl_mode.specs.ThreadSizes.{sizes_from}
use Rattle.dl_mode.proofs.thread_sizes.ThreadSizes.list.Given as goal

abbrev pub invariant-loop-thread : goal.invariant-loop-thread
invariant-loop-thread l = l.list ++ sizes_from l.thread (drop l.thread l.self-inside.sizes.lanes) ≡ l.self.sizes
