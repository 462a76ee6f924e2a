-- A replayed sphere beside the play of its log: it has done the play's whole commits so far, and maybe pieces of the next.
use Rattle.std.specs.Prelude.{◌≡◌, ℕ, ◌<◌, ◌⊎◌, true, [], slice_get, slice_set, Some}
use Rattle.dl_entry.specs.declared.End.{End}
use Rattle.dl_entry.specs.declared.Why.{Why}
use Rattle.spec_isa.specs.declared.thread.Parts.{Parts}
use Rattle.spec_isa.specs.Words.{lays}
use Rattle.spec_isa.specs.Runs.{run}
use Rattle.spec_log.specs.declared.LogParts.{LogParts}
use Rattle.spec_kernel.specs.Interrupts.{is_live}
use Rattle.spec_play.specs.Progress.{position}
use Rattle.spec_play.specs.Turns.{TurnOrEnd, Turn, TurnOfDma, Ended}
use Rattle.spec_play.specs.Plays.{Played, play_one}
use Rattle.spec_play.specs.Intervals.{now_of}
use Rattle.spec_sphere.specs.sphere.Spheres.{Cursor, Replay, Sphere, whole_limit}
use Rattle.spec_sphere.specs.sphere.Setups.{ReplaySetup}

-- ---- the state

-- no piece of the next commit is done, and memory and threads are the play's
pub record IsWhole (y : Played) (p : Sphere) (b : Cursor) : Type 0 where
  pub memory : p.memory ≡ y.memory
  pub threads : p.threads ≡ y.threads
  pub total : b.total ≡ 0
  pub loads : b.loads ≡ []

-- memory and threads are the play's, except that thread k, which is t there, has run the instructions of the pieces of its
-- present commit, in which there is room for at least one more. Nothing else has come between, and the reservation is kept
pub record IsMovedOn (log : LogParts) (y : Played) (k : ℕ) (t : Parts) (p : Sphere) (b : Cursor) : Type 0 where
  pub is : slice_get y.threads k ≡ Some t
  pub live : is_live t ≡ true
  pub ran : (run y.memory t b.total).n ≡ b.total
  pub memory : p.memory ≡ lays y.memory (run y.memory t b.total).words
  pub threads : p.threads ≡ slice_set y.threads k (run y.memory t b.total).thread
  pub loads : b.loads ≡ (run y.memory t b.total).loads
  pub within : b.total < whole_limit log k t.commits

-- by whose turn it is in the play: only a thread's commits come in pieces
abbrev pub StandsAt : LogParts → Played → TurnOrEnd → Sphere → Cursor → Type 0
StandsAt log y (Turn k) p b = (t : Parts) × IsMovedOn log y k t p b
StandsAt log y TurnOfDma p b = IsWhole y p b
StandsAt log y (Ended how) p b = IsWhole y p b

-- ---- the end

-- the replay has ended within the play's next commit, which diverges: all that it does to the play is give it this end
pub record EndsWithin (log : LogParts) (y : Played) (b : Cursor) : Type 0 where
  pub why : Why
  pub over : b.now ≡ Ended (End.Diverged (position y.progress) why)
  pub diverges : play_one log y ≡ record y { now = Ended (End.Diverged (position y.progress) why) }

-- ---- both

-- the replayed sphere p, with its current memory, has followed the play as far as y
pub record Follows (asked : ReplaySetup) (y : Played) (p : Sphere) : Type 0 where
  pub cursor : Cursor
  pub role : p.role ≡ Replay cursor
  pub same_log : cursor.log ≡ asked.log
  pub same_interval : cursor.interval ≡ asked.interval
  -- the same whole commits, with their loads and outputs, the same request, and the same parts of the log used
  pub progress : p.progress ≡ y.progress
  pub used : cursor.used ≡ y.used
  -- it is the same actor's turn, or both have ended in the same way; or the replay has, within the play's next commit
  pub now : (cursor.now ≡ now_of asked.interval asked.log y) ⊎ EndsWithin asked.log y cursor
  -- if the play has ended, so has the replay
  pub ended : (how : End) → now_of asked.interval asked.log y ≡ Ended how → cursor.now ≡ Ended how
  pub state : StandsAt asked.log y (now_of asked.interval asked.log y) p cursor
