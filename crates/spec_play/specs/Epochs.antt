-- What a recording keeps that gives up its earliest commits: it is cut into epochs of as many commits each, and keeps the last
-- few of them, each with the state in which it begins.
use Rattle.std.specs.Prelude.{ℕ, ◌-◌, ◌%◌, ◌&&◌, ◌||◌, nat_eq, nat_lt, nat_le, not, Bool, false, List, ◌∷◌, [], ◌++◌, length}
use Rattle.std.specs.Prelude.{drop}
use Rattle.std.specs.Prelude.{slice_get, Option, Some, None, if◌then◌else◌}
use Rattle.std.specs.List.{filter}
use Rattle.spec_isa.specs.declared.thread.Parts.{Parts}
use Rattle.spec_log.specs.declared.Sizes.{Sizes}
use Rattle.spec_log.specs.declared.LogParts.{LogParts}
use Rattle.spec_log.specs.Noting.{Kept}
use Rattle.spec_play.specs.Noted.{Recorded}
use Rattle.spec_play.specs.States.{State}

-- where an epoch begins: the state there, and how many inputs were noted before, counted from the recording's start
pub record Epoch : Type 0 where
  pub state : State
  pub inputs : ℕ

-- how many commits an epoch has, how many epochs are kept, and where those that are kept begin, the earliest first
pub record Epochs : Type 0 where
  pub size : ℕ
  pub keep : ℕ
  pub begun : List Epoch

-- ---- what comes before a state

-- how many commits a thread had done, and whether it handled an interrupt; a thread that wasn't there yet had done none
abbrev pub commits_of : Option Parts → ℕ
commits_of None = 0
commits_of (Some t) = t.commits

abbrev pub is_masked : Option Parts → Bool
is_masked None = false
is_masked (Some t) = t.mask

-- whether a commit of thread k, with so many of its commits before it, was done
abbrev pub was_done : List Parts → (thread index : ℕ) → Bool
was_done threads k i = nat_lt i (commits_of (slice_get threads k))

-- whether an interrupt of thread k after so many of its commits was raised: after as many as it had done only if the thread
-- still handled it
abbrev pub was_raised : List Parts → (thread index : ℕ) → Bool
was_raised threads k i =
    was_done threads k i || (nat_eq i (commits_of (slice_get threads k)) && is_masked (slice_get threads k))

-- ---- what comes after it

-- the sizes, without those of n commits that come before the state; and what is kept of the commits
abbrev pub sizes_from : (n : ℕ) → List Parts → Sizes → Sizes
sizes_from n threads (Sizes.Each sizes) = Sizes.Each (drop n sizes)
sizes_from n threads (Sizes.Short sizes) = Sizes.Short (filter (λ x. not (was_done threads x.thread x.index)) sizes)

abbrev pub kept_from : (n : ℕ) → List Parts → Kept → Kept
kept_from n threads kept =
    record kept {
      count = kept.count - n;
      order = drop n kept.order;
      sizes = sizes_from n threads kept.sizes;
    }

-- what a recorder keeps, without n commits and m inputs that come before the state
abbrev pub recorded_from : (n m : ℕ) → State → Recorded → Recorded
recorded_from n m s r =
    record r {
      kept = kept_from n s.threads r.kept;
      interrupts = filter (λ x. not (was_raised s.threads x.thread x.index)) r.interrupts;
      inputs = drop m r.inputs;
      dmas = filter (λ x. nat_le s.commits x.position) r.dmas;
    }

-- the log, without them
abbrev pub log_from : (n m : ℕ) → State → LogParts → LogParts
log_from n m s log =
    record log {
      count = log.count - n;
      order = drop n log.order;
      sizes = sizes_from n s.threads log.sizes;
      interrupts = filter (λ x. not (was_raised s.threads x.thread x.index)) log.interrupts;
      inputs = drop m log.inputs;
      dmas = filter (λ x. nat_le s.commits x.position) log.dmas;
    }

-- ---- epochs

-- how many commits and inputs were noted before the earliest of these epochs
abbrev pub commits_before : List Epoch → ℕ
commits_before [] = 0
commits_before (e ∷ es) = e.state.commits

abbrev pub inputs_before : List Epoch → ℕ
inputs_before [] = 0
inputs_before (e ∷ es) = e.inputs

-- whether one of these epochs begins after so many commits
abbrev pub begins_at : (commits : ℕ) → List Epoch → Bool
begins_at n [] = false
begins_at n (e ∷ es) = nat_eq e.state.commits n || begins_at n es

-- whether one is to begin there
abbrev pub is_due : (commits : ℕ) → Epochs → Bool
is_due n x = nat_eq (n % x.size) 0 && not (begins_at n x.begun)

-- with one more begun
abbrev pub with_epoch : Epoch → Epochs → Epochs
with_epoch e x = record x { begun = x.begun ++ e ∷ [] }

-- where the earliest kept epoch begins, and the one after it, if the earliest is one too many
abbrev pub given_up : (keep : ℕ) → List Epoch → Option (Epoch × Epoch)
given_up keep [] = None
given_up keep (a ∷ []) = None
given_up keep (a ∷ b ∷ es) = if nat_lt keep (length (a ∷ b ∷ es)) then Some (a, b) else None

-- without the earliest epoch
abbrev pub without_first : Epochs → Epochs
without_first x = record x { begun = drop 1 x.begun }
