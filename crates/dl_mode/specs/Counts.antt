-- The number of an actor's commits.
use Rattle.std.specs.Prelude.{ℕ, ◌^◌, ◌<◌, ◌≤◌, List, fold, replicate, slice_index}
use Rattle.dl_entry.specs.Numbers.{most_threads}
use Rattle.dl_entry.specs.declared.actor.Actor.{Actor}
use Rattle.dl_entry.specs.declared.actor.Actor.TheVariants.{Thread, Dma}
use Rattle.spec_log.specs.Noting.{done_with}

-- of a thread; a DMA's aren't counted
abbrev pub done_by : List ℕ → Actor → ℕ
done_by done (Thread thread) = slice_index done thread
done_by done Dma = 0

-- no thread has done more commits than there are
abbrev pub AreAmong : ℕ → List ℕ → Type 0
AreAmong count done = (thread : ℕ) → slice_index done thread ≤ count

-- there are few enough commits of each thread that they can be counted in 32 bits beside those that are counted
abbrev pub AreFew : List ℕ → List Actor → Type 0
AreFew counts order = (thread : ℕ) → slice_index (fold done_with counts order) thread < 2 ^ 32

-- the number of each thread's commits in an order
abbrev pub counted : List Actor → List ℕ
counted order = fold done_with (replicate most_threads 0) order
