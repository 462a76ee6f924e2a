-- The size that a log gives for a commit, if any.
use Rattle.std.specs.Prelude.{ℕ, ◌==◌, Bool, false, ◌&&◌, List, Option, None, option_map, map, filter, find, slice_get}
use Rattle.std.specs.List.{zip}
use Rattle.dl_entry.specs.declared.actor.Actor.{Actor}
use Rattle.dl_entry.specs.declared.actor.Actor.TheVariants.{Thread, Dma}
use Rattle.spec_log.specs.declared.sizes.Sizes.{Sizes}
use Rattle.spec_log.specs.declared.sizes.Sizes.TheVariants.{Each, Short}
use Rattle.spec_log.specs.declared.log.LogParts.{LogParts}

-- whether the actor is this thread
abbrev pub is_thread : ℕ → Actor → Bool
is_thread thread (Thread number) = number == thread
is_thread thread Dma = false

-- the sizes of a thread's commits, in their order
abbrev pub sizes_of_thread : ℕ → List Actor → List ℕ → List ℕ
sizes_of_thread thread order sizes = map (λ p. p.1) (filter (λ p. is_thread thread p.0) (zip order sizes))

-- the size of a thread's commit with so many of its commits before
abbrev pub thread_size : List Actor → Sizes → ℕ → ℕ → Option ℕ
thread_size order (Each sizes) thread index = slice_get (sizes_of_thread thread order sizes) index
thread_size order (Short sizes) thread index =
    option_map (λ short. short.size) (find (λ short. (short.thread == thread) && (short.index == index)) sizes)

-- the size of the DMA that commits at this position
abbrev pub dma_size : Sizes → ℕ → Option ℕ
dma_size (Each sizes) position = slice_get sizes position
dma_size (Short sizes) position = None

-- the size of an actor's commit: of a thread by the number of its commits before, of a DMA by its position
abbrev pub size_in : LogParts → Actor → ℕ → Option ℕ
size_in log (Thread thread) index = thread_size log.order log.sizes thread index
size_in log Dma position = dma_size log.sizes position
