-- What is promised of the plays of tails.
use Rattle.std.specs.Prelude.{◌≡◌, ℕ, ◌+◌, ◌<◌, List, drop, All}
use Rattle.dl_entry.specs.declared.End.{End}
use Rattle.spec_log.specs.declared.LogParts.{LogParts}
use Rattle.spec_log.specs.Log.{IsLog}
use Rattle.spec_play.specs.declared.WalkEnd.{WalkEnd}
use Rattle.spec_play.specs.Plays.{Played, opened as log_opened, plays, play as log_play, FitsImage}
use Rattle.spec_play.specs.States.{walked_from}
use Rattle.spec_play.specs.Turns.{TurnOrEnd, Turn, TurnOfDma, Ended}
use Rattle.spec_tail.specs.Cutting.{IsTailOf}
use Rattle.spec_tail.specs.Direct as direct
use Rattle.spec_tail.specs.Tails.{Tail, IsTail, state_of}
use Rattle.spec_tail.specs.Playing.{begun, counted_from, end_from, played, walked}

-- a tail that has all of a recording: no commit comes before it, and no interrupt is logged for a thread's first commit
pub record IsWhole (t : Tail) : Type 0 where
  pub base : t.base ≡ 0
  pub threads : All (λ p. p.commits ≡ 0) t.threads
  pub interrupts : All (λ x. 0 < x.index) t.log.interrupts

abbrev pub WholeTailsPlayLogs : Type 0
WholeTailsPlayLogs = (t : Tail) → IsWhole t → walked t ≡ walked_from t.log (state_of t) t.log.count

-- ---- the last part of a log

abbrev pub turn_from : (base : ℕ) → TurnOrEnd → TurnOrEnd
turn_from base (Turn k) = Turn k
turn_from base TurnOfDma = TurnOfDma
turn_from base (Ended how) = Ended (end_from base how)

-- the log's play is at z, and the tail's play, which counts from the base, at w
pub record IsAlong (t : Tail) (z w : Played) : Type 0 where
  pub memory : z.memory ≡ w.memory
  pub threads : z.threads ≡ counted_from (begun t.threads) 0 w.threads
  pub commits : drop t.base z.progress.commits ≡ w.progress.commits
  pub request : z.progress.request ≡ w.progress.request
  pub last : z.progress.last ≡ w.progress.last
  pub now : z.now ≡ turn_from t.base w.now

pub record PlaysOn (log : LogParts) (memory : List ℕ) (entry : ℕ) (t : Tail) : Type 0 where
  -- after any number of commits from the base on
  pub each : (i : ℕ) → IsAlong t (plays log (log_opened log memory entry) (t.base + i)) (played t i)
  -- all of it
  pub whole : let y = log_play log memory entry in
      walked t
      ≡ record {
        commits = drop t.base y.progress.commits;
        threads = y.threads;
        memory = y.memory;
        request = y.progress.request;
        end = WalkEnd.Ended (End.Complete log.count);
      }

-- of a log that fits the image
abbrev pub TailsPlayOn : Type 0
TailsPlayOn =
    (log : LogParts) (memory : List ℕ) (entry : ℕ) (t : Tail)
    → IsLog log → FitsImage log memory entry → IsTailOf log memory entry t
    → PlaysOn log memory entry t

-- ---- told directly

-- a play that counts from the base, counted from the recording's start
abbrev pub told : Tail → Played → Played
told t w =
    record {
      memory = w.memory;
      threads = counted_from (begun t.threads) 0 w.threads;
      progress = record w.progress { first = t.base + w.progress.first };
      used = w.used;
      now = turn_from t.base w.now;
    }

-- the play is the one that is told directly: after any number of commits, and in what its walk leaves
pub record IsDirect (t : Tail) : Type 0 where
  pub each : (i : ℕ) → direct.played t i ≡ told t (played t i)
  pub walked : direct.walked t ≡ walked t

-- for every tail, whether it plays to its end or diverges
abbrev pub TailsAreDirect : Type 0
TailsAreDirect = (t : Tail) → IsTail t → IsDirect t
