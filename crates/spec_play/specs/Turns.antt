-- Whose turn it is in a play, or how it has ended: looked at before the first commit and after each whole one.
use Rattle.std.specs.Prelude.{ℕ, Bool, true, false, nat_lt, List, length, map, slice_get, Option, Some, None, if◌then◌else◌}
use Rattle.std.specs.List.{list_all}
use Rattle.dl_entry.specs.declared.Actor.{Actor}
use Rattle.dl_entry.specs.declared.End.{End}
use Rattle.dl_entry.specs.declared.Why.{Why}
use Rattle.spec_isa.specs.declared.thread.Parts.{Parts}
use Rattle.spec_log.specs.declared.ShortSize.{ShortSize}
use Rattle.spec_log.specs.declared.Sizes.{Sizes}
use Rattle.spec_log.specs.declared.LogParts.{LogParts}
use Rattle.spec_log.specs.Head.{head}
use Rattle.spec_kernel.specs.Interrupts.{is_live}
use Rattle.spec_play.specs.Progress.{Progress, position}
use Rattle.spec_play.specs.declared.used.Used.{Used}

pub data TurnOrEnd : Type 0 where
  Turn : (thread : ℕ) → TurnOrEnd
  TurnOfDma : TurnOrEnd
  Ended : (how : End) → TurnOrEnd

-- ---- at the end of the log

-- a size that names a commit is used once that commit is done
abbrev pub is_size_used : Option Parts → ShortSize → Bool
is_size_used None short = false
is_size_used (Some t) short = nat_lt short.index t.commits

-- if each commit has a size, all of them are used once all commits are done
abbrev pub are_sizes_used : List Parts → Sizes → Bool
are_sizes_used threads (Sizes.Each sizes) = true
are_sizes_used threads (Sizes.Short sizes) =
    list_all (λ short. is_size_used (slice_get threads short.thread) short) sizes

-- whether a size, an interrupt, an input or a DMA record was never used
unfoldable pub has_left_over : LogParts → Used → List Parts → Bool
has_left_over log u threads =
    if are_sizes_used threads log.sizes
    then if nat_lt u.interrupts (length log.interrupts) then true
    else if nat_lt u.inputs (length log.inputs) then true
    else nat_lt u.dmas (length log.dmas)
    else true

abbrev pub at_end : (commits : ℕ) → (left_over : Bool) → TurnOrEnd
at_end i true = Ended (End.Diverged i Why.LeftOver)
at_end i false = Ended (End.Complete i)

-- ---- before the end of the log

-- a thread whose turn it is must be live
abbrev pub turn_of_thread : (commits thread : ℕ) → Option Parts → TurnOrEnd
turn_of_thread i k None = Ended (End.Diverged i Why.NoThread)
turn_of_thread i k (Some t) = if is_live t then Turn k else Ended (End.Diverged i Why.NoThread)

abbrev pub turn_of : (commits : ℕ) → List Parts → Option Actor → TurnOrEnd
turn_of i threads None = Ended (End.Diverged i Why.NoThread)
turn_of i threads (Some Actor.Dma) = TurnOfDma
turn_of i threads (Some (Actor.Thread k)) = turn_of_thread i k (slice_get threads k)

-- the actor that the log names next
abbrev pub next_actor : LogParts → Progress → List Parts → Option Actor
next_actor log p threads = head log (position p) p.last (map is_live threads)

unfoldable pub now_at : LogParts → Progress → Used → List Parts → TurnOrEnd
now_at log p u threads =
    if nat_lt (position p) log.count
    then turn_of (position p) threads (next_actor log p threads)
    else at_end (position p) (has_left_over log u threads)
