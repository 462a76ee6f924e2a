-- What the check of strata on an image answers, as the code says it.
use Rattle.std.specs.Prelude.{◌≡◌, ℕ, Bool, false, List, map, Result, Ok, Err}
use Rattle.std.specs.List.{flat_map}
use Rattle.spec_play.specs.Plays.{opened, play, FitsImage}
use Rattle.spec_strata.specs.declared.strata.StrataParts.{StrataParts}
use Rattle.spec_strata.specs.Canonical.{canonical}
use Rattle.spec_strata.specs.OnImages.{kinds_of, conflicts_at}
use Rattle.spec_strata.specs.Checking.{IsAnswer, IsLeast, IsUnfit, Parallel, Unfit, Conflict}
use Rattle.dl_strata.specs.declared.checking.CheckError.{CheckError}
use Rattle.dl_strata.specs.Conflicts.{IsFirst}

-- Ok says that they are parallel, and an error says of which commit they aren't; that memory ran out has no cause
abbrev pub IsChecked : StrataParts → (memory : List ℕ) → (entry : ℕ) → Result (Unit {0}) CheckError → Type 0
IsChecked v memory entry (Ok done) = IsAnswer v memory entry Parallel
IsChecked v memory entry (Err (CheckError.Unfit i)) = IsAnswer v memory entry (Unfit i)
IsChecked v memory entry (Err (CheckError.Conflict i)) = IsAnswer v memory entry (Conflict i)
IsChecked v memory entry (Err CheckError.OutOfMemory) = Unit {0}

-- ---- all commits fit

-- the canonical log fits the image, and each commit is of the kind that its stratum holds
pub record AllFit (v : StrataParts) (memory : List ℕ) (entry : ℕ) : Type 0 where
  pub fits : FitsImage (canonical v) memory entry
  pub kinds : map (λ c. c.kind) (play (canonical v) memory entry).progress.commits ≡ flat_map kinds_of v.strata

-- they do, or this is the first that doesn't
abbrev pub IsFit : StrataParts → (memory : List ℕ) → (entry : ℕ) → Result (Unit {0}) CheckError → Type 0
IsFit v memory entry (Ok done) = AllFit v memory entry
IsFit v memory entry (Err (CheckError.Unfit i)) = IsLeast (IsUnfit v memory entry) i
IsFit v memory entry (Err (CheckError.Conflict i)) = ⊥
IsFit v memory entry (Err CheckError.OutOfMemory) = Unit {0}

-- ---- no commit conflicts

abbrev pub conflicts : StrataParts → (memory : List ℕ) → (entry i : ℕ) → Bool
conflicts v memory entry i = conflicts_at (canonical v) (opened (canonical v) memory entry) v.strata i

-- none does, or this is the first that does
abbrev pub IsApart : StrataParts → (memory : List ℕ) → (entry : ℕ) → Result (Unit {0}) CheckError → Type 0
IsApart v memory entry (Ok done) = (i : ℕ) → conflicts v memory entry i ≡ false
IsApart v memory entry (Err error) = IsFirst (conflicts v memory entry) error
