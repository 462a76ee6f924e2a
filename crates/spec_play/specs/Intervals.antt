-- The commits of its log that a replayed sphere does, if a plan says where they begin or end.
use Rattle.std.specs.Prelude.{◌≡◌, ℕ, ◌-◌, ◌≤◌, ◌&&◌, min, nat_lt, nat_le, List, Option, Some, None, if◌then◌else◌}
use Rattle.dl_entry.specs.declared.End.{End}
use Rattle.spec_log.specs.declared.LogParts.{LogParts}
use Rattle.spec_play.specs.declared.interval.Interval.{Interval}
use Rattle.spec_play.specs.Progress.{position}
use Rattle.spec_play.specs.Turns.{TurnOrEnd, Turn, TurnOfDma, Ended}
use Rattle.spec_play.specs.Plays.{Played, opened, plays}
use Rattle.spec_play.specs.States.{state_of, progress_from}

-- ---- which commits

-- neither number is over the log's count
abbrev pub within : (count first last : ℕ) → Interval
within count first last = record { first = min first count; last = min last count }

-- from the first commit if a plan names the last alone, and to the count if it names the first alone; if it names neither,
-- the sphere does all commits, and ends as the log's play does
abbrev pub interval_of : (from to : Option ℕ) → (count : ℕ) → Option Interval
interval_of None None count = None
interval_of None (Some to) count = Some (within count 0 to)
interval_of (Some from) None count = Some (within count from count)
interval_of (Some from) (Some to) count = Some (within count from to)

-- a plan that names both names them in order
abbrev pub AreOrdered : (from to : Option ℕ) → Type 0
AreOrdered None to = Unit {0}
AreOrdered (Some from) None = Unit {0}
AreOrdered (Some from) (Some to) = from ≤ to

-- an interval is in order, and none of its commits is past the log's count
pub record IsWithin (count : ℕ) (i : Interval) : Type 0 where
  pub order : i.first ≤ i.last
  pub most : i.last ≤ count

abbrev pub IsWithinIf : (count : ℕ) → Option Interval → Type 0
IsWithinIf count None = Unit {0}
IsWithinIf count (Some i) = IsWithin count i

-- so is each that a plan asks for, if it names its ends in order
abbrev pub IntervalsAreWithin : Type 0
IntervalsAreWithin =
    (from to : Option ℕ) (count : ℕ) (i : Interval)
    → AreOrdered from to
    → interval_of from to count ≡ Some i
    → IsWithin count i

-- ---- its play

-- how many commits come before it, and how many it has
abbrev pub before : Option Interval → ℕ
before None = 0
before (Some i) = i.first

abbrev pub commits_in : (count : ℕ) → Option Interval → ℕ
commits_in count None = count
commits_in count (Some i) = i.last - i.first

-- a play as it is, with none of the commits that are done
abbrev pub without_commits : Played → Played
without_commits y = record y { progress = progress_from (state_of y) }

-- where it begins: after the commits before it, unless the play diverges at one of them
abbrev pub begun : LogParts → (memory : List ℕ) → (entry : ℕ) → Option Interval → Played
begun log memory entry i = without_commits (plays log (opened log memory entry) (before i))

-- ---- its end

-- an interval that has all its commits ends so, whether or not the log has more
abbrev pub at_end_of_log : TurnOrEnd → TurnOrEnd
at_end_of_log (Turn k) = Turn k
at_end_of_log TurnOfDma = TurnOfDma
at_end_of_log (Ended (End.Complete n)) = Ended (End.At n)
at_end_of_log (Ended (End.At n)) = Ended (End.At n)
at_end_of_log (Ended (End.Diverged n why)) = Ended (End.Diverged n why)

-- whose turn it is in it, or how it has ended, if in the play of the whole log, which has so many commits, it is this after
-- so many. Once the last of the interval is done, the next turn isn't looked at if the log has more
abbrev pub now_in : Option Interval → (count commits : ℕ) → TurnOrEnd → TurnOrEnd
now_in None count n now = now
now_in (Some i) count n now = if nat_le i.last n && nat_lt n count then Ended (End.At n) else at_end_of_log now

-- of a play
abbrev pub now_of : Option Interval → LogParts → Played → TurnOrEnd
now_of i log y = now_in i log.count (position y.progress) y.now
