-- What the check of strata on an image answers.
use Rattle.std.specs.Prelude.{◌≡◌, ◌≢◌, ℕ, zero, suc, ◌<◌, ◌⊎◌, nat_eq, Bool, true, false, ◌||◌, not, List, map, slice_get, Option, Some, None, if◌then◌else◌}
use Rattle.std.specs.List.{flat_map}
use Rattle.dl_entry.specs.declared.CommitKind.{CommitKind}
use Rattle.dl_entry.specs.declared.End.{End}
use Rattle.dl_entry.specs.declared.Why.{Why}
use Rattle.spec_play.specs.Turns.{TurnOrEnd, Ended}
use Rattle.spec_play.specs.Plays.{Played, opened, play}
use Rattle.spec_strata.specs.declared.strata.StrataParts.{StrataParts}
use Rattle.spec_strata.specs.Canonical.{canonical}
use Rattle.spec_strata.specs.OnImages.{kinds_of, conflicts_at, IsParallelOn}

-- commit i of the canonical log's play is of another kind than its stratum holds
pub record IsOfOtherKind (v : StrataParts) (memory : List ℕ) (entry i : ℕ) : Type 0 where
  pub kind : CommitKind
  pub done : slice_get (map (λ c. c.kind) (play (canonical v) memory entry).progress.commits) i ≡ Some kind
  pub other : slice_get (flat_map kinds_of v.strata) i ≢ Some kind

-- the strata don't fit at commit i: the play diverges there, or the commit is of another kind
abbrev pub IsUnfit : (v : StrataParts) → (memory : List ℕ) → (entry i : ℕ) → Type 0
IsUnfit v memory entry i =
    ((why : Why) × ((play (canonical v) memory entry).now ≡ Ended (End.Diverged i why))) ⊎ IsOfOtherKind v memory entry i

-- commit i conflicts with an earlier one of another thread in its stratum
abbrev pub is_conflict : (v : StrataParts) → (memory : List ℕ) → (entry i : ℕ) → Bool
is_conflict v memory entry i = conflicts_at (canonical v) (opened (canonical v) memory entry) v.strata i

abbrev pub IsConflict : (v : StrataParts) → (memory : List ℕ) → (entry i : ℕ) → Type 0
IsConflict v memory entry i = is_conflict v memory entry i ≡ true

-- i is the least number of which this holds
pub record IsLeast (holds : ℕ → Type 0) (i : ℕ) : Type 0 where
  pub there : holds i
  pub least : (j : ℕ) → j < i → holds j → ⊥

pub data StrataAnswer : Type 0 where
  Parallel : StrataAnswer
  Unfit : (commit : ℕ) → StrataAnswer
  Conflict : (commit : ℕ) → StrataAnswer

-- the strata are parallel; or the first commit that doesn't fit; or, if all of them fit, the first one that conflicts
abbrev pub IsAnswer : (v : StrataParts) → (memory : List ℕ) → (entry : ℕ) → StrataAnswer → Type 0
IsAnswer v memory entry Parallel = IsParallelOn v memory entry
IsAnswer v memory entry (Unfit i) = IsLeast (IsUnfit v memory entry) i
IsAnswer v memory entry (Conflict i) =
    ((j : ℕ) → IsUnfit v memory entry j → ⊥) × IsLeast (IsConflict v memory entry) i

-- Strata have one answer on an image.
abbrev pub OneAnswer : Type 0
OneAnswer =
    (v : StrataParts) (memory : List ℕ) (entry : ℕ) (a b : StrataAnswer)
    → IsAnswer v memory entry a → IsAnswer v memory entry b → a ≡ b

-- ---- the answer as a function

-- the first number that passes the test, of n of them from i on
abbrev pub first_from : (test : ℕ → Bool) → (i n : ℕ) → Option ℕ
first_from test i zero = None
first_from test i (suc n) = if test i then Some i else first_from test (suc i) n

-- the play has diverged at commit i
abbrev pub is_diverged_at : TurnOrEnd → (i : ℕ) → Bool
is_diverged_at (Ended (End.Diverged index why)) i = nat_eq index i
is_diverged_at now i = false

abbrev pub are_same : (one other : CommitKind) → Bool
are_same CommitKind.Chunk CommitKind.Chunk = true
are_same CommitKind.Serial CommitKind.Serial = true
are_same CommitKind.Dma CommitKind.Dma = true
are_same CommitKind.Piece CommitKind.Piece = true
are_same one other = false

-- a commit that is done isn't of the kind that is held in its place
abbrev pub is_other_kind : (done held : Option CommitKind) → Bool
is_other_kind None held = false
is_other_kind (Some done) None = true
is_other_kind (Some done) (Some held) = not (are_same done held)

abbrev pub is_unfit : (v : StrataParts) → (memory : List ℕ) → (entry i : ℕ) → Bool
is_unfit v memory entry i =
    let y : Played = play (canonical v) memory entry in
    is_diverged_at y.now i
    || is_other_kind (slice_get (map (λ c. c.kind) y.progress.commits) i) (slice_get (flat_map kinds_of v.strata) i)

abbrev pub conflict_or_none : Option ℕ → StrataAnswer
conflict_or_none None = Parallel
conflict_or_none (Some i) = Conflict i

abbrev pub unfit_or : Option ℕ → StrataAnswer → StrataAnswer
unfit_or None answer = answer
unfit_or (Some i) answer = Unfit i

-- the first commit that doesn't fit; else the first that conflicts; else none. A play may diverge at the number of commits
-- too, if the log has something left.
unfoldable pub answer_of : (v : StrataParts) → (memory : List ℕ) → (entry : ℕ) → StrataAnswer
answer_of v memory entry =
    let count : ℕ = (canonical v).count in
    unfit_or (first_from (is_unfit v memory entry) 0 (suc count))
    (conflict_or_none (first_from (is_conflict v memory entry) 0 count))

-- It is the answer.
abbrev pub AnswersAreFound : Type 0
AnswersAreFound =
    (v : StrataParts) (memory : List ℕ) (entry : ℕ) → IsAnswer v memory entry (answer_of v memory entry)
