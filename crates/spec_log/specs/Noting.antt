-- What a log keeps of commits that are noted one after another.
use Rattle.std.specs.Prelude.{ℕ, ◌+◌, ◌==◌, nat_lt, nat_le, Bool, ◌&&◌, List, [], ◌∷◌, ◌++◌, length, replicate, fold, slice_index, slice_set}
use Rattle.std.specs.Prelude.{slice_get, max, Option, Some, None, if◌then◌else◌}
use Rattle.std.specs.List.{list_all, range_with_len}
use Rattle.dl_entry.specs.declared.actor.Actor.{Actor}
use Rattle.dl_entry.specs.declared.actor.Actor.TheVariants.{Thread, Dma}
use Rattle.dl_entry.specs.declared.input.Input.{Input}
use Rattle.dl_entry.specs.Numbers.{most_threads}
use Rattle.spec_log.specs.declared.mode_name.ModeName.{ModeName}
use Rattle.spec_log.specs.declared.mode_name.ModeName.TheVariants.{OrderSize, OrderOnly, Picolog}
use Rattle.spec_log.specs.declared.records.Interrupt.{Interrupt}
use Rattle.spec_log.specs.declared.records.DmaRecord.{DmaRecord}
use Rattle.spec_log.specs.declared.sizes.ShortSize.{ShortSize}
use Rattle.spec_log.specs.declared.sizes.Sizes.{Sizes}
use Rattle.spec_log.specs.declared.sizes.Sizes.TheVariants.{Each, Short}
use Rattle.spec_log.specs.declared.log.LogParts.{LogParts}
use Rattle.spec_log.specs.Head.{head_by_turn}
use Rattle.spec_log.specs.Reading.{is_earlier}
use Rattle.spec_log.specs.Size.{thread_size, dma_size, sizes_of_thread}

-- a commit as a log sees it: who commits, the size, and whether its chunk is short: closed before its standard size
pub record Note : Type 0 where
  pub actor : Actor
  pub size : ℕ
  pub short : Bool

-- what is kept: the standard chunk size, the number of commits, the order, the sizes, and the number of each thread's commits
pub record Kept : Type 0 where
  pub s : ℕ
  pub count : ℕ
  pub order : List Actor
  pub sizes : Sizes
  pub done : List ℕ

-- no size yet: of each commit, or of the short chunks
abbrev pub no_sizes : ModeName → Sizes
no_sizes OrderSize = Each []
no_sizes OrderOnly = Short []
no_sizes Picolog = Short []

-- nothing is noted yet, of any of the threads that a sphere can have
abbrev pub nothing_kept : ModeName → ℕ → Kept
nothing_kept mode s = record { s = s; count = 0; order = []; sizes = no_sizes mode; done = replicate most_threads 0 }

-- the order with an actor more; in picolog there is none
abbrev pub order_with : ModeName → List Actor → Actor → List Actor
order_with OrderSize order actor = order ++ actor ∷ []
order_with OrderOnly order actor = order ++ actor ∷ []
order_with Picolog order actor = order

-- an entry at its place by thread and index, instead of another of the same moment
abbrev pub insert_by : {X : Type 0} → (X → ℕ) → (X → ℕ) → X → List X → List X
insert_by thread index x [] = x ∷ []
insert_by thread index x (y ∷ ys) =
    if is_earlier (thread y) (index y) (thread x) (index x) then y ∷ insert_by thread index x ys
    else if (thread y == thread x) && (index y == index x) then x ∷ ys
    else x ∷ y ∷ ys

abbrev pub insert_size : ShortSize → List ShortSize → List ShortSize
insert_size = insert_by (λ s. s.thread) (λ s. s.index)

abbrev pub insert_interrupt : Interrupt → List Interrupt → List Interrupt
insert_interrupt = insert_by (λ i. i.thread) (λ i. i.index)

-- the number of an actor's commits before; those of DMAs aren't counted
abbrev pub index_of : List ℕ → Actor → ℕ
index_of done (Thread thread) = slice_index done thread
index_of done Dma = 0

-- the short sizes with a chunk more, of an actor with so many commits before: of a thread, where it is short
abbrev pub short_at : List ShortSize → (index : ℕ) → Actor → ℕ → Bool → List ShortSize
short_at sizes index (Thread thread) size short =
    if short then insert_size (record { thread = thread; index = index; size = size }) sizes else sizes
short_at sizes index Dma size short = sizes

abbrev pub short_with : List ShortSize → List ℕ → Actor → ℕ → Bool → List ShortSize
short_with sizes done actor size short = short_at sizes (index_of done actor) actor size short

-- the sizes with a commit more, of an actor with so many before
abbrev pub sizes_at : Sizes → (index : ℕ) → Note → Sizes
sizes_at (Each sizes) index note = Each (sizes ++ note.size ∷ [])
sizes_at (Short sizes) index note = Short (short_at sizes index note.actor note.size note.short)

abbrev pub sizes_with : Sizes → List ℕ → Note → Sizes
sizes_with sizes done note = sizes_at sizes (index_of done note.actor) note

-- one commit of an actor more; a DMA is no thread's
abbrev pub done_with : List ℕ → Actor → List ℕ
done_with done (Thread thread) = slice_set done thread (slice_index done thread + 1)
done_with done Dma = done

-- a commit more is noted
abbrev pub noted : ModeName → Kept → Note → Kept
noted mode kept note =
    record {
      s = kept.s;
      count = kept.count + 1;
      order = order_with mode kept.order note.actor;
      sizes = sizes_with kept.sizes kept.done note;
      done = done_with kept.done note.actor;
    }

-- what is kept of these commits, from the first on
abbrev pub kept_of : ModeName → ℕ → List Note → Kept
kept_of mode s notes = fold (noted mode) (nothing_kept mode s) notes

-- the size that is kept of an actor's commit: of a thread by the number of its commits before, of a DMA by its position
abbrev pub kept_size : Kept → Actor → ℕ → Option ℕ
kept_size kept (Thread thread) index = thread_size kept.order kept.sizes thread index
kept_size kept Dma position = dma_size kept.sizes position

-- how many instructions a chunk may run: the logged size, 1 in place of a logged 0, else a standard chunk's
abbrev pub limit_by : ℕ → Option ℕ → ℕ
limit_by s None = s
limit_by s (Some size) = max 1 size

-- whether every size of a thread is of a commit that it has done; a DMA's size counts as used
abbrev pub sizes_used : List Actor → Sizes → List ℕ → Bool
sizes_used order (Each sizes) done =
    list_all (λ thread. nat_le (length (sizes_of_thread thread order sizes)) (slice_index done thread)) (range_with_len 0 most_threads)
sizes_used order (Short sizes) done = list_all (λ short. nat_lt short.index (slice_index done short.thread)) sizes

-- whose commit is kept at a position, told whether a DMA commits there, which thread committed last, and which are live
abbrev pub kept_head : ModeName → List Actor → ℕ → Bool → Option ℕ → List Bool → Option Actor
kept_head OrderSize order position dma last live = slice_get order position
kept_head OrderOnly order position dma last live = slice_get order position
kept_head Picolog order position dma last live = head_by_turn dma last live

-- the log of what is kept, with its records, in a version and of so many threads
abbrev pub log_of : (version threads : ℕ) → ModeName → Kept → List Interrupt → List Input → List DmaRecord → LogParts
log_of version threads mode kept interrupts inputs dmas =
    record {
      version = version;
      threads = threads;
      mode = mode;
      s = kept.s;
      count = kept.count;
      order = kept.order;
      sizes = kept.sizes;
      interrupts = interrupts;
      inputs = inputs;
      dmas = dmas;
    }
