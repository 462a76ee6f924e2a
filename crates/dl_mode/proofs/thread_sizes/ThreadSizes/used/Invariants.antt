use Rattle.std.proofs.Common.{◌≡◌, nat_lt, slice_index, drop}
use Rattle.std.specs.List.{list_all}
use Rattle.dl_mode.specs.ThreadSizes.{sizes_from}
use Rattle.dl_mode.proofs.thread_sizes.ThreadSizes.used.Given as goal

abbrev pub invariant-loop-thread : goal.invariant-loop-thread
invariant-loop-thread l =
    list_all (λ short. nat_lt short.index (slice_index l.done short.thread)) l.self.sizes
    ≡ list_all (λ short. nat_lt short.index (slice_index l.done short.thread)) (sizes_from l.thread (drop l.thread l.self-inside.sizes.lanes))
