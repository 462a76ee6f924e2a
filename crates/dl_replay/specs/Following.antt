-- A replay: its log, which of its commits it does if not all, or in which strata it does them, and whose turn it is.
use Rattle.std.specs.Prelude.{ℕ, List, Option, Some, None}
use Rattle.dl_entry.specs.declared.End.{End}
use Rattle.dl_entry.specs.declared.Why.{Why}
use Rattle.spec_isa.specs.declared.thread.Parts.{Parts}
use Rattle.spec_isa.specs.declared.thread.Load.{Load}
use Rattle.spec_log.specs.declared.LogParts.{LogParts}
use Rattle.spec_play.specs.declared.used.Used.{Used}
use Rattle.spec_play.specs.declared.interval.Interval.{Interval}
use Rattle.spec_play.specs.Progress.{Progress, position}
use Rattle.spec_play.specs.Turns as turns
use Rattle.spec_strata.specs.Standing.{Standing}
use Rattle.spec_play.specs.States.{State, progress_from}
use Rattle.spec_play.specs.Intervals.{now_in}
use Rattle.spec_sphere.specs.sphere.Spheres.{Cursor}
use Rattle.spec_sphere.specs.sphere.Commits.{now_by}
use Rattle.dl_replay.specs.declared.turn_or_end.TurnOrEnd.{TurnOrEnd}

pub record Following : Type 0 where
  pub log : LogParts
  pub interval : Option Interval
  pub strata : Option Standing
  pub now : turns.TurnOrEnd
  -- the instructions of the pieces of the present commit
  pub total : ℕ

-- whose turn it is, as the code keeps it
abbrev pub turn_seen : TurnOrEnd → turns.TurnOrEnd
turn_seen (TurnOrEnd.Turn thread) = turns.Turn thread
turn_seen TurnOrEnd.TurnOfDma = turns.TurnOfDma
turn_seen (TurnOrEnd.Ended how) = turns.Ended how

abbrev pub following : LogParts → Option Interval → Option Standing → TurnOrEnd → (total : ℕ) → Following
following log interval strata turn total =
    record { log = log; interval = interval; strata = strata; now = turn_seen turn; total = total }

-- between two commits: after this progress, with these threads
abbrev pub followed : LogParts → Option Interval → Option Standing → Progress → Used → List Parts → Following
followed log interval strata p u threads =
    record {
      log = log;
      interval = interval;
      strata = strata;
      now = now_in interval log.count (position p) (now_by strata log p u threads);
      total = 0;
    }

-- from a state of the log's play on, in no strata
abbrev pub followed_from : LogParts → Option Interval → State → Following
followed_from log interval s = followed log interval None (progress_from s) s.used s.threads

-- the replay ends after so many commits, diverged for this reason
abbrev pub diverged : Why → (commits : ℕ) → Following → Following
diverged why commits r = record r { now = turns.Ended (End.Diverged commits why) }

-- the cursor of the replayed sphere, by what is used of the log and the loads of the pieces
abbrev pub cursor_of : Following → Used → List Load → Cursor
cursor_of r used loads =
    record {
      log = r.log;
      interval = r.interval;
      strata = r.strata;
      used = used;
      now = r.now;
      total = r.total;
      loads = loads;
    }

-- how it ended, if it did
abbrev pub end_of : turns.TurnOrEnd → Option End
end_of (turns.Turn thread) = None
end_of turns.TurnOfDma = None
end_of (turns.Ended how) = Some how
