-- Spheres that differ only in what their recordings in epochs still have of earlier commits.
use Rattle.std.specs.Prelude.{◌≡◌, ℕ, ◌≤◌, List, [], ◌∷◌, All, Option, Some, None}
use Rattle.spec_log.specs.declared.LogParts.{LogParts}
use Rattle.spec_log.specs.Noting.{no_sizes}
use Rattle.spec_play.specs.Progress.{Progress, position}
use Rattle.spec_play.specs.Epochs.{Epoch, Epochs}
use Rattle.spec_sphere.specs.sphere.Spheres.{Role, Plain, Record, Replay, Sphere}

-- ---- a sphere without what it has recorded

-- the first if there are epochs, else the second
abbrev pub if_epochs : {X : Type 0} → Option Epochs → X → X → X
if_epochs None x y = y
if_epochs (Some epochs) x y = x

-- as if the first commit were the next one
abbrev pub progress_without : Option Epochs → Progress → Progress
progress_without o g =
    record g { first = if_epochs o (position g) g.first; commits = if_epochs o [] g.commits }

-- of what was noted only the number of commits is left
abbrev pub log_without : Option Epochs → (commits : ℕ) → LogParts → LogParts
log_without o n log =
    record log {
      count = if_epochs o n log.count;
      order = if_epochs o [] log.order;
      sizes = if_epochs o (no_sizes log.mode) log.sizes;
      interrupts = if_epochs o [] log.interrupts;
      inputs = if_epochs o [] log.inputs;
      dmas = if_epochs o [] log.dmas;
    }

-- none has begun
abbrev pub epochs_without : Option Epochs → Option Epochs
epochs_without None = None
epochs_without (Some epochs) = Some (record epochs { begun = [] })

abbrev pub epochs_in : Role → Option Epochs
epochs_in Plain = None
epochs_in (Record recording) = recording.epochs
epochs_in (Replay b) = None

abbrev pub role_without : (commits : ℕ) → Role → Role
role_without n Plain = Plain
role_without n (Record recording) =
    Record (record {
      log = log_without recording.epochs n recording.log;
      epochs = epochs_without recording.epochs;
    })
role_without n (Replay b) = Replay b

-- a sphere that is recorded in epochs, as if its recording began here; any other sphere stays as it is
abbrev pub forgotten : Sphere → Sphere
forgotten p =
    record p {
      progress = progress_without (epochs_in p.role) p.progress;
      role = role_without (position p.progress) p.role;
    }

-- ---- alike

-- two spheres have the same memory, threads, last thread, request, number of commits and role, and if they aren't recorded in
-- epochs, then all that they have is the same
abbrev pub IsAlike : Sphere → Sphere → Type 0
IsAlike p q = forgotten p ≡ forgotten q

-- ---- where epochs have begun

-- the earliest begins with the first commit that is kept, and none begins after more commits than are done
pub record HaveBegun (g : Progress) (begun : List Epoch) : Type 0 where
  pub first : (e : Epoch) (es : List Epoch) → begun ≡ e ∷ es → e.state.commits ≡ g.first
  pub done : All (λ e. e.state.commits ≤ position g) begun

abbrev pub HaveBegunIf : Progress → Option Epochs → Type 0
HaveBegunIf g None = Unit {0}
HaveBegunIf g (Some epochs) = HaveBegun g epochs.begun
