-- Values by rising indices.
use Rattle.std.specs.Prelude.{◌≡◌, ℕ, ◌<◌, ◌≤◌, ◌==◌, nat_lt, List, [], ◌∷◌, length, slice_set, slice_index_or, Option, Some}
use Rattle.std.specs.Prelude.{None, is_some, if◌then◌else◌}
use Rattle.std.specs.Prelude.{suc, nat_le, slice_index}
use Rattle.std.specs.List.{AllAdjacentBelow, insert, filter}
use Rattle.dl_moments.specs.declared.lane.Mark.{Mark}

-- each index is lower than the next
abbrev pub Rises : {V : Type 0} → List (Mark V) → Type 0
Rises marks = AllAdjacentBelow (λ x y. x.index < y.index) marks (length marks)

-- a value put at an index, in place of any other that is there
abbrev pub with_mark : {V : Type 0} → ℕ → V → List (Mark V) → List (Mark V)
with_mark index value [] = record { index = index; value = value } ∷ []
with_mark index value (mark ∷ marks) =
    if nat_lt mark.index index then mark ∷ with_mark index value marks
    else if mark.index == index then record { index = index; value = value } ∷ marks
    else record { index = index; value = value } ∷ mark ∷ marks

-- the value at an index
abbrev pub value_at : {V : Type 0} → ℕ → List (Mark V) → Option V
value_at index [] = None
value_at index (mark ∷ marks) = if mark.index == index then Some mark.value else value_at index marks

-- a value put in place of another, if there is one
abbrev pub with_mark_if : {V : Type 0} → ℕ → V → List (Mark V) → List (Mark V)
with_mark_if index value marks = if is_some (value_at index marks) then with_mark index value marks else marks

-- the values from an index on, and each thread's from an index of its own
abbrev pub marks_from : {V : Type 0} → ℕ → List (Mark V) → List (Mark V)
marks_from start marks = filter (λ mark. nat_le start mark.index) marks

abbrev pub lanes_from : {V : Type 0} → (starts : List ℕ) → (thread : ℕ) → List (List (Mark V)) → List (List (Mark V))
lanes_from starts thread [] = []
lanes_from starts thread (lane ∷ lanes) = marks_from (slice_index starts thread) lane ∷ lanes_from starts (suc thread) lanes

-- the index is at a place
pub record Stands {V : Type 0} (index : ℕ) (marks : List (Mark V)) (place : ℕ) : Type 0 where
  pub within : place < length marks
  pub put : (value : V) → with_mark index value marks ≡ slice_set marks place (record { index = index; value = value })
  pub value : (d : Mark V) → value_at index marks ≡ Some (slice_index_or marks place d).value

-- the index is nowhere, and is to be put at a place
pub record Misses {V : Type 0} (index : ℕ) (marks : List (Mark V)) (place : ℕ) : Type 0 where
  pub within : place ≤ length marks
  pub put : (value : V) → with_mark index value marks ≡ insert marks place (record { index = index; value = value })
  pub value : value_at index marks ≡ None
