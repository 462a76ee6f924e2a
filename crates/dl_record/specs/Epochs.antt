-- A recording in epochs: where it begins, when an epoch is due, and what is left once one has begun.
use Rattle.std.specs.Prelude.{◌≡◌, ℕ, ◌+◌, ◌-◌, ◌≤◌, Bool, true, false, List, [], ◌∷◌, length, slice_get, Option, Some, None}
use Rattle.std.specs.Prelude.{option_map, if◌then◌else◌}
use Rattle.spec_isa.specs.declared.thread.Parts.{Parts}
use Rattle.spec_play.specs.Epochs.{Epoch, Epochs, commits_of, is_masked, recorded_from, commits_before, inputs_before, is_due}
use Rattle.spec_play.specs.Epochs.{with_epoch, given_up, without_first}
use Rattle.spec_play.specs.Noted.{Recorded}
use Rattle.spec_play.specs.States.{State}

-- ---- where it begins

-- how many commits and inputs came before what is recorded: a recording that isn't in epochs has all of them
abbrev pub base : Option Epochs → ℕ
base None = 0
base (Some x) = commits_before x.begun

abbrev pub base_inputs : Option Epochs → ℕ
base_inputs None = 0
base_inputs (Some x) = inputs_before x.begun

-- the state at which it begins
abbrev pub base_state : Option Epochs → Option State
base_state None = None
base_state (Some x) = option_map (λ e. e.state) (slice_get x.begun 0)

-- ---- when an epoch is due

abbrev pub due_in : Option Epochs → (commits : ℕ) → Bool
due_in None n = false
due_in (Some x) n = is_due n x

-- after so many commits every epoch has begun that was to begin
abbrev pub IsBegun : Option Epochs → (commits : ℕ) → Type 0
IsBegun x n = due_in x n ≡ false

-- ---- what is left

-- what is recorded, and the epochs that it is in, if it is in epochs
pub record InEpochs : Type 0 where
  pub recorded : Recorded
  pub epochs : Option Epochs

-- what is left without what came before the second of the two epochs, if the first of them is given up
abbrev pub left_of : Option (Epoch × Epoch) → Recorded → Epochs → InEpochs
left_of None r x = record { recorded = r; epochs = Some x }
left_of (Some p) r x =
    record {
      recorded = recorded_from (p.1.state.commits - p.0.state.commits) (p.1.inputs - p.0.inputs) p.1.state r;
      epochs = Some (without_first x);
    }

-- one more epoch has begun, and the earliest is given up if there are then more than are kept
abbrev pub begun_in : Recorded → State → Epochs → InEpochs
begun_in r s x =
    let e : Epoch = record { state = s; inputs = inputs_before x.begun + length r.inputs } in
    let y = with_epoch e x in left_of (given_up y.keep y.begun) r y

abbrev pub epoch_begun : State → InEpochs → InEpochs
epoch_begun s w = elim w.epochs [ None ↦ w | Some x ↦ begun_in w.recorded s x ]

-- after how many commits of a thread an interrupt of it wasn't raised yet
abbrev pub unraised_of : Option Parts → ℕ
unraised_of t = if is_masked t then commits_of t + 1 else commits_of t

-- ---- what stands together

-- no thread had done more commits in a state than there were
abbrev pub IsCounted : State → Type 0
IsCounted s = (t : ℕ) → commits_of (slice_get s.threads t) ≤ s.commits

-- each of the epochs begins at a later state than the one before, and none after so many commits and inputs
abbrev pub Follow : List Epoch → (commits inputs : ℕ) → Type 0
Follow [] n m = Unit {0}
Follow (e ∷ []) n m = IsCounted e.state × (e.state.commits ≤ n) × (e.inputs ≤ m)
Follow (a ∷ b ∷ es) n m = IsCounted a.state × (a.state.commits ≤ b.state.commits) × (a.inputs ≤ b.inputs) × Follow (b ∷ es) n m

-- the epochs of a recording of so many commits and inputs: none is begun only if there is no commit yet
pub record AreEpochs (x : Epochs) (n m : ℕ) : Type 0 where
  pub size : 1 ≤ x.size
  pub keep : 1 ≤ x.keep
  pub few : length x.begun ≤ x.keep
  pub first : x.begun ≡ [] → n ≡ 0
  pub follow : Follow x.begun n m

abbrev pub AreEpochsIf : Option Epochs → (n m : ℕ) → Type 0
AreEpochsIf None n m = Unit {0}
AreEpochsIf (Some x) n m = AreEpochs x n m

-- the epochs as they are kept, and whether there is room for one more
pub record EpochList : Type 0 where
  pub epochs : Epochs
  pub room : Bool

abbrev pub epochs_in : Option EpochList → Option Epochs
epochs_in x = option_map (λ y. y.epochs) x

abbrev pub has_room : Option EpochList → Bool
has_room None = true
has_room (Some x) = x.room
