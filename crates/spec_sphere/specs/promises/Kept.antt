-- When an epoch of a recording is due, and what is sound of one that gives up its earliest commits.
use Rattle.std.specs.Prelude.{◌≡◌, ℕ, ◌≤◌, Bool, false, length, slice_get, Option, Some, None}
use Rattle.spec_log.specs.declared.LogParts.{LogParts}
use Rattle.spec_play.specs.Progress.{position}
use Rattle.spec_play.specs.Epochs.{Epoch, Epochs, is_due}
use Rattle.spec_play.specs.Verdicts.{interrupt_at}
use Rattle.spec_play.specs.Plays.{Played}
use Rattle.spec_kernel.specs.Interrupts.{interrupted}
use Rattle.spec_isa.specs.declared.thread.Parts.{Parts}
use Rattle.spec_sphere.specs.sphere.Spheres.{Role, Plain, Record, Replay, Sphere}
use Rattle.spec_sphere.specs.promises.Sound.{AreFresh}

-- ---- whether an epoch is due

abbrev pub is_due_if : (commits : ℕ) → Option Epochs → Bool
is_due_if n None = false
is_due_if n (Some epochs) = is_due n epochs

abbrev pub is_due_in : Role → (commits : ℕ) → Bool
is_due_in Plain n = false
is_due_in (Record recording) n = is_due_if n recording.epochs
is_due_in (Replay b) n = false

abbrev pub has_due : Sphere → Bool
has_due p = is_due_in p.role (position p.progress)

-- ---- what is sound

-- of a sphere that has kept this log, after so many events: it has no more commits than there were events, the log counts
-- those that it has, and has no interrupt of what comes next
pub record IsSoundTail (events : ℕ) (p : Sphere) (log : LogParts) : Type 0 where
  pub few : length p.progress.commits ≤ events
  pub count : log.count ≡ length p.progress.commits
  pub interrupts : AreFresh p.threads log.interrupts

-- ---- what is promised, of a setup within its limits

-- a thread that takes the interrupt, if there is one
abbrev pub after_raise : Option ℕ → Parts → Parts
after_raise None t = t
after_raise (Some value) t = interrupted value t

-- the play of a whole log has come to where the epoch begins, and this is its log since. It takes interrupts as soon as a commit
-- is done, so it has taken those too that were raised right after the state
pub record HasComeTo (y : Played) (e : Epoch) (log : LogParts) : Type 0 where
  pub commits : position y.progress ≡ e.state.commits
  pub memory : y.memory ≡ e.state.memory
  pub request : y.progress.request ≡ e.state.request
  pub last : y.progress.last ≡ e.state.last
  pub inputs : y.used.inputs ≡ e.inputs
  pub many : length y.threads ≡ length e.state.threads
  pub threads : (k : ℕ) (t : Parts)
      → slice_get e.state.threads k ≡ Some t
      → slice_get y.threads k ≡ Some (after_raise (interrupt_at log.interrupts k t.commits) t)
