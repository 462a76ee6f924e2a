use Rattle.std.proofs.Common.{◌≡◌}
use Rattle.std.specs.List.{flat_map, range_with_len}
use Rattle.spec_strata.specs.Making.{chunk_sizes}
use Rattle.dl_strata.proofs.sizes.sizes_by_thread.Given as goal

abbrev pub invariant-loop-thread : goal.invariant-loop-thread
invariant-loop-thread l = l.sizes ≡ flat_map (λ k. chunk_sizes k 0 l.commits) (range_with_len 0 l.thread)
