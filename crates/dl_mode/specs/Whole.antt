-- What stands together in a log in order-size.
use Rattle.std.specs.Prelude.{◌≡◌, ℕ, ◌+◌, ◌^◌, ◌≤◌, List, length, slice_get, slice_index}
use Rattle.dl_entry.specs.Numbers.{most_threads}
use Rattle.dl_entry.specs.declared.actor.Actor.{Actor}
use Rattle.spec_log.specs.Size.{sizes_of_thread}
use Rattle.dl_mode.specs.ThreadSizes.{ThreadSizes, size_among}

-- each commit has an actor and a size, and the sizes by thread and index are those of the thread's commits in their order, the
-- index counted from those past, that were given up
pub record IsWhole (order : List Actor) (sizes past : List ℕ) (threads : ThreadSizes) : Type 0 where
  pub few : length order ≤ 2 ^ 24
  pub same : length sizes ≡ length order
  pub all : length threads.done ≡ most_threads
  pub all_past : length past ≡ most_threads
  pub few_done : (t : ℕ) → slice_index threads.done t ≤ 2 ^ 24
  pub each : (t i : ℕ) → size_among threads.sizes t (slice_index past t + i) ≡ slice_get (sizes_of_thread t order sizes) i
  pub counted : (t : ℕ) → slice_index threads.done t ≡ slice_index past t + length (sizes_of_thread t order sizes)
