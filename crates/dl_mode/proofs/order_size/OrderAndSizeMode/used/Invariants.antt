use Rattle.std.proofs.Common.{◌≡◌, ℕ, ◌-◌, nat_le, length, slice_index}
use Rattle.std.specs.List.{list_all, range_with_len}
use Rattle.dl_entry.specs.Numbers.{most_threads}
use Rattle.spec_log.specs.Size.{sizes_of_thread}
use Rattle.dl_mode.proofs.order_size.OrderAndSizeMode.used.Given as goal

abbrev pub invariant-loop-thread : goal.invariant-loop-thread
invariant-loop-thread l =
    let p = λ (thread : ℕ). nat_le (length (sizes_of_thread thread l.log-inside.order.items l.log-inside.sizes.items)) (slice_index l.done thread) in
    list_all p (range_with_len 0 most_threads) ≡ list_all p (range_with_len l.thread (most_threads - l.thread))
