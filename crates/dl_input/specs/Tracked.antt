-- Interrupts by thread and index, and whether each was taken.
use Rattle.std.specs.Prelude.{ℕ, ◌==◌, Bool, true, false, ◌&&◌, List, find, Option, Some, None, option_map}
use Rattle.std.specs.Prelude.{nat_le, slice_index}
use Rattle.std.specs.List.{filter}
use Rattle.spec_log.specs.declared.records.Interrupt.{Interrupt}
use Rattle.spec_log.specs.Noting.{insert_by}
use Rattle.dl_moments.specs.declared.lane.Mark.{Mark}
use Rattle.dl_moments.specs.Entries.{entries_from}
use Rattle.dl_input.specs.declared.interrupts.Raised.{Raised}

-- an interrupt, with its value and whether it was taken
pub record Tracked : Type 0 where
  pub thread : ℕ
  pub index : ℕ
  pub raised : Raised

abbrev pub tracked_of : ℕ → Mark Raised → Tracked
tracked_of thread mark = record { thread = thread; index = mark.index; raised = mark.value }

-- an interrupt that isn't taken yet
abbrev pub new_tracked : ℕ → ℕ → ℕ → Tracked
new_tracked thread index value = record { thread = thread; index = index; raised = record { value = value; taken = false } }

-- those of a thread, and of the threads after it
abbrev pub tracked_from : ℕ → List (List (Mark Raised)) → List Tracked
tracked_from = entries_from tracked_of

-- what was raised at a thread after that many of its commits
abbrev pub raised_at : List Tracked → ℕ → ℕ → Option Raised
raised_at entries thread index =
    option_map (λ s. s.raised) (find (λ s. (s.thread == thread) && (s.index == index)) entries)

-- an interrupt put in its place, instead of another of the same moment
abbrev pub insert_tracked : Tracked → List Tracked → List Tracked
insert_tracked = insert_by (λ s. s.thread) (λ s. s.index)

abbrev pub interrupt_of : Tracked → Interrupt
interrupt_of tracked = record { thread = tracked.thread; index = tracked.index; value = tracked.raised.value }

-- what is at a moment, marked as taken
abbrev pub marked : ℕ → ℕ → Option Raised → List Tracked → List Tracked
marked thread index None entries = entries
marked thread index (Some raised) entries =
    insert_tracked (record { thread = thread; index = index; raised = record { value = raised.value; taken = true } }) entries

abbrev pub taken_at : ℕ → ℕ → List Tracked → List Tracked
taken_at thread index entries = marked thread index (raised_at entries thread index) entries

-- each thread's from an index of its own on
abbrev pub tracked_since : (starts : List ℕ) → List Tracked → List Tracked
tracked_since starts entries = filter (λ s. nat_le (slice_index starts s.thread) s.index) entries

-- the interrupts by thread and index, how many were ever noted, and whether there is room for one more
pub record Noted : Type 0 where
  pub entries : List Tracked
  pub count : ℕ
  pub room : Bool
