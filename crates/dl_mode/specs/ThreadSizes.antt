-- Sizes by thread and index, and the number of each thread's commits.
use Rattle.std.specs.Prelude.{ℕ, ◌==◌, Bool, ◌&&◌, List, find, Option, option_map}
use Rattle.spec_log.specs.declared.sizes.ShortSize.{ShortSize}
use Rattle.dl_moments.specs.declared.lane.Mark.{Mark}
use Rattle.dl_moments.specs.Entries.{entries_from}

-- the sizes of one thread, and of this thread and those after it
abbrev pub short_of : ℕ → Mark ℕ → ShortSize
short_of thread mark = record { thread = thread; index = mark.index; size = mark.value }

abbrev pub sizes_from : ℕ → List (List (Mark ℕ)) → List ShortSize
sizes_from = entries_from short_of

-- the size of a thread's commit among these
abbrev pub size_among : List ShortSize → ℕ → ℕ → Option ℕ
size_among sizes thread index =
    option_map (λ short. short.size) (find (λ short. (short.thread == thread) && (short.index == index)) sizes)

-- the sizes by thread and index, the number of each thread's commits, and whether there is room for one size more
pub record ThreadSizes : Type 0 where
  pub sizes : List ShortSize
  pub done : List ℕ
  pub room : Bool
