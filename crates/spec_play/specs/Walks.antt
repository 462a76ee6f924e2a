-- The walk of a log: the first commits of its play, up to a number that is asked for.
use Rattle.std.specs.Prelude.{◌≡◌, ℕ, ◌<◌, ◌≤◌, ◌⊎◌, ◌||◌, Bool, nat_le, nat_lt, List, length, take, Option, if◌then◌else◌}
use Rattle.dl_entry.specs.declared.Commit.{Commit}
use Rattle.dl_entry.specs.declared.End.{End}
use Rattle.dl_entry.specs.declared.Request.{Request}
use Rattle.spec_isa.specs.declared.thread.Parts.{Parts}
use Rattle.spec_log.specs.declared.LogParts.{LogParts}
use Rattle.spec_play.specs.declared.walk_end.WalkEnd.{WalkEnd}
use Rattle.spec_play.specs.Progress.{position}
use Rattle.spec_play.specs.Turns.{TurnOrEnd, Turn, TurnOfDma, Ended}
use Rattle.spec_play.specs.Plays.{Played, opened, plays, play}

-- what a walk leaves
pub record Walked : Type 0 where
  pub commits : List Commit
  pub threads : List Parts
  pub memory : List ℕ
  pub request : Option Request
  pub end : WalkEnd

-- once `to` commits are done, the end isn't looked at if the log has more
abbrev pub is_looked_at : LogParts → (to i : ℕ) → Bool
is_looked_at log to i = nat_lt i to || nat_le log.count to

abbrev pub walk_end : LogParts → (to i : ℕ) → TurnOrEnd → WalkEnd
walk_end log to i (Ended how) = if is_looked_at log to i then WalkEnd.Ended how else WalkEnd.Reached i
walk_end log to i (Turn k) = WalkEnd.Reached i
walk_end log to i TurnOfDma = WalkEnd.Reached i

-- the play's state after a walk of up to `to` commits
abbrev pub walked_at : LogParts → (to : ℕ) → Played → Walked
walked_at log to y =
    record {
      commits = y.progress.commits;
      threads = y.threads;
      memory = y.memory;
      request = y.progress.request;
      end = walk_end log to (position y.progress) y.now;
    }

-- the log is walked on an image, up to `to` commits
abbrev pub walked : LogParts → (memory : List ℕ) → (entry to : ℕ) → Walked
walked log memory entry to = walked_at log to (plays log (opened log memory entry) to)

-- ---- what is promised

-- what a walk that has ended leaves is what the play leaves
pub record HasEnded (v : Walked) (y : Played) (how : End) : Type 0 where
  pub now : y.now ≡ Ended how
  pub threads : v.threads ≡ y.threads
  pub memory : v.memory ≡ y.memory
  pub request : v.request ≡ y.progress.request

pub record HasReached (log : LogParts) (v : Walked) (to i : ℕ) : Type 0 where
  pub all : i ≡ to
  pub commits : length v.commits ≡ to
  pub more : to < log.count

pub record IsWalk (log : LogParts) (v : Walked) (y : Played) (to : ℕ) : Type 0 where
  pub commits : v.commits ≡ take to y.progress.commits
  pub ended : (how : End) → v.end ≡ WalkEnd.Ended how → HasEnded v y how
  pub reached : (i : ℕ) → v.end ≡ WalkEnd.Reached i → HasReached log v to i
  -- it ends if the play ends at fewer commits, or if the log has no more
  pub ends : (how : End) → y.now ≡ Ended how → (position y.progress < to) ⊎ (log.count ≤ to)
      → v.end ≡ WalkEnd.Ended how

abbrev pub WalksArePlays : Type 0
WalksArePlays =
    (log : LogParts) (memory : List ℕ) (entry to : ℕ)
    → IsWalk log (walked log memory entry to) (play log memory entry) to
