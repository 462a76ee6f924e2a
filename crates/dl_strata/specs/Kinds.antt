-- The kinds of commits, and those that are held at their places.
use Rattle.std.specs.Prelude.{◌≡◌, ◌≢◌, ℕ, ◌<◌, List, Option, Some, None, slice_get}
use Rattle.dl_entry.specs.declared.CommitKind.{CommitKind}

-- commit i is of the kind that is held at its place, if there is such a commit
abbrev pub IsAsHeld : (done held : List CommitKind) → (i : ℕ) → Type 0
IsAsHeld done held i = (kind : CommitKind) → slice_get done i ≡ Some kind → slice_get held i ≡ Some kind

-- it is there, and of another kind
pub record IsOther (done held : List CommitKind) (i : ℕ) : Type 0 where
  pub kind : CommitKind
  pub there : slice_get done i ≡ Some kind
  pub other : slice_get held i ≢ Some kind

-- the first one that is of another kind, if there is one
abbrev pub IsFirstOther : (done held : List CommitKind) → Option ℕ → Type 0
IsFirstOther done held None = (i : ℕ) → IsAsHeld done held i
IsFirstOther done held (Some i) = IsOther done held i × ((j : ℕ) → j < i → IsAsHeld done held j)
