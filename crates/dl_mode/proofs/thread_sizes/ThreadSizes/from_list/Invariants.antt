use Rattle.std.proofs.Common.{◌≡◌, length, take}
use Rattle.dl_entry.specs.Numbers.{most_threads}
use Rattle.dl_mode.specs.ThreadSizes.{sizes_from}
use Rattle.dl_mode.proofs.thread_sizes.ThreadSizes.from_list.Given as goal

abbrev pub invariant-loop-short : goal.invariant-loop-short
invariant-loop-short l = (length l.sizes.lanes ≡ most_threads) × (sizes_from 0 l.sizes.lanes ≡ take l.short-index l.list)
