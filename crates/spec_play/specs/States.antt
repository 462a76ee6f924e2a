-- Where a play is between two commits, and the play that goes on from there.
use Rattle.std.specs.Prelude.{ℕ, ◌-◌, List, [], Option}
use Rattle.dl_entry.specs.declared.Request.{Request}
use Rattle.spec_isa.specs.declared.thread.Parts.{Parts}
use Rattle.spec_log.specs.declared.LogParts.{LogParts}
use Rattle.spec_play.specs.Progress.{Progress, position}
use Rattle.spec_play.specs.declared.used.Used.{Used}
use Rattle.spec_play.specs.Turns.{now_at}
use Rattle.spec_play.specs.Plays.{Played, opened, plays}
use Rattle.spec_play.specs.Walks.{Walked, walked_at}

-- all that the next commits depend on: the memory, the threads, the outstanding request, the thread that committed last,
-- the number of commits done, and how many records of the log are used
pub record State : Type 0 where
  pub memory : List ℕ
  pub threads : List Parts
  pub request : Option Request
  pub last : Option ℕ
  pub commits : ℕ
  pub used : Used

abbrev pub state_of : Played → State
state_of y =
    record {
      memory = y.memory;
      threads = y.threads;
      request = y.progress.request;
      last = y.progress.last;
      commits = position y.progress;
      used = y.used;
    }

-- after i commits of a log on an image
abbrev pub state_after : LogParts → (memory : List ℕ) → (entry i : ℕ) → State
state_after log memory entry i = state_of (plays log (opened log memory entry) i)

-- ---- going on

-- no commit since the state; the next one has the number of those before
abbrev pub progress_from : State → Progress
progress_from s = record { first = s.commits; commits = []; last = s.last; request = s.request }

-- the play of the log that starts at the state
abbrev pub resumed : LogParts → State → Played
resumed log s =
    let progress = progress_from s in
    record {
      memory = s.memory;
      threads = s.threads;
      progress = progress;
      used = s.used;
      now = now_at log progress s.used s.threads;
    }

-- the walk from there, until `to` commits of the log are done
abbrev pub walked_from : LogParts → State → (to : ℕ) → Walked
walked_from log s to = walked_at log to (plays log (resumed log s) (to - s.commits))
