-- Epochs of recordings: one begins at each multiple of their size, and the earliest is given up if there are too many. Between
-- two events, so that no event sees what is given up.
use Rattle.std.specs.Prelude.{ℕ, ◌+◌, ◌-◌, ◌*◌, ◌/◌, List, length, drop, Option, Some, None, if◌then◌else◌}
use Rattle.spec_log.specs.declared.LogParts.{LogParts}
use Rattle.spec_play.specs.Progress.{Progress, position, nothing_used}
use Rattle.spec_play.specs.States.{State}
use Rattle.spec_play.specs.Epochs.{Epoch, Epochs, log_from, with_epoch, given_up, without_first, inputs_before, is_due}
use Rattle.spec_sphere.specs.sphere.Spheres.{Role, Plain, Record, Replay, Sphere}

-- ---- where an epoch begins

-- the state of a sphere whose current memory is this; no log is used
abbrev pub state_in : (memory : List ℕ) → Sphere → State
state_in m p =
    record {
      memory = m;
      threads = p.threads;
      request = p.progress.request;
      last = p.progress.last;
      commits = position p.progress;
      used = nothing_used;
    }

abbrev pub epoch_at : (memory : List ℕ) → LogParts → Epochs → Sphere → Epoch
epoch_at m log x p = record { state = state_in m p; inputs = inputs_before x.begun + length log.inputs }

-- ---- what is given up

-- without the first n commits; what is done is counted as before
abbrev pub progress_after : (n : ℕ) → Progress → Progress
progress_after n g = record g { first = g.first + n; commits = drop n g.commits }

abbrev pub as_recorded : LogParts → Epochs → Sphere → Sphere
as_recorded log x p = record p { role = Record (record { log = log; epochs = Some x }) }

-- the earliest epoch, with its commits and records, if there are more than are kept
abbrev pub trimmed_by : Option (Epoch × Epoch) → LogParts → Epochs → Sphere → Sphere
trimmed_by None log x p = as_recorded log x p
trimmed_by (Some (a, b)) log x p =
    let n = b.state.commits - a.state.commits in
    as_recorded (log_from n (b.inputs - a.inputs) b.state log) (without_first x)
    (record p { progress = progress_after n p.progress })

abbrev pub trimmed : LogParts → Epochs → Sphere → Sphere
trimmed log x p = trimmed_by (given_up x.keep x.begun) log x p

-- ---- an epoch begins

abbrev pub begun_if : LogParts → Option Epochs → (memory : List ℕ) → Sphere → Sphere
begun_if log None m p = p
begun_if log (Some x) m p =
    if is_due (position p.progress) x then trimmed log (with_epoch (epoch_at m log x p) x) p else p

abbrev pub begun_in : Role → (memory : List ℕ) → Sphere → Sphere
begun_in Plain m p = p
begun_in (Record recording) m p = begun_if recording.log recording.epochs m p
begun_in (Replay b) m p = p

-- in a sphere whose current memory is this, if one is due
unfoldable pub epoch_begun : (memory : List ℕ) → Sphere → Sphere
epoch_begun m p = begun_in p.role m p

-- ---- the base

-- after so many commits: where the earliest epoch begins that is kept
abbrev pub base_of : (commits size keep : ℕ) → ℕ
base_of n size keep = (n / size + 1 - keep) * size
