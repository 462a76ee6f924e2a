-- The walk of a tail, as the code keeps it.
use Rattle.std.specs.Prelude.{◌≡◌, ◌+◌, ◌-◌, ◌≤◌, ℕ, Bool, List, slice_get, Some}
use Rattle.dl_entry.specs.declared.End.{End}
use Rattle.spec_isa.specs.declared.thread.Parts.{Parts}
use Rattle.spec_log.specs.declared.LogParts.{LogParts}
use Rattle.spec_play.specs.declared.used.Used.{Used}
use Rattle.spec_play.specs.declared.WalkEnd.{WalkEnd}
use Rattle.spec_play.specs.Plays.{Played, plays}
use Rattle.spec_play.specs.Progress.{nothing_used}
use Rattle.spec_play.specs.States as play
use Rattle.spec_tail.specs.Playing as tail
use Rattle.spec_tail.specs.Promise.{told}
use Rattle.spec_tail.specs.Tails.{Tail, state_of}
use Rattle.dl_serial.specs.declared.raising.Raised.{Raised}

-- after the commits of a tail, counted from the recording's start: its memory, its threads, its request, the thread that
-- committed last, how many commits are done, and how many records of the tail's log are used
abbrev pub state_after : Tail → play.State
state_after t = play.state_of (told t (tail.play t))

-- ---- the way there

abbrev pub raised_in : Raised → tail.Raised
raised_in r = record { threads = r.threads; count = r.count; refused = r.refused }

-- the state at the base, with these threads, from which its log for later is played
abbrev pub state_from_base : Tail → tail.Raised → (dmas : ℕ) → play.State
state_from_base t r dmas = record (state_of t) { threads = r.threads; commits = 0; used = record nothing_used { dmas = dmas } }

-- the whole play of a log from a state, unless an interrupt was refused there
abbrev pub played_from : LogParts → play.State → (refused : Bool) → Played
played_from log s refused = plays log (tail.begun_play log s refused) log.count

-- the commits up to the end
abbrev pub end_commits : End → ℕ
end_commits (End.Complete i) = i
end_commits (End.At i) = i
end_commits (End.Diverged i why) = i

abbrev pub commits_at : WalkEnd → ℕ
commits_at (WalkEnd.Reached i) = i
commits_at (WalkEnd.Ended how) = end_commits how

-- no thread has more commits
abbrev pub AreBelow : (most : ℕ) → List Parts → Type 0
AreBelow most threads = (k : ℕ) (t : Parts) → slice_get threads k ≡ Some t → t.commits ≤ most

-- a state of a play that counts from the base, counted from the recording's start
abbrev pub state_since : Tail → play.State → play.State
state_since t s = record s { threads = tail.counted_from (tail.begun t.threads) 0 s.threads; commits = t.base + s.commits }

-- what of a tail's log is used, if this is of its log for later: also the interrupts at the base, and not the DMAs that were
-- passed over
abbrev pub used_in_tail : (raised passed : ℕ) → Used → Used
used_in_tail raised passed u = record u { interrupts = raised + u.interrupts; dmas = u.dmas - passed }
