-- Which points of a recorded sphere are kept.
use Rattle.std.specs.Prelude.{ℕ, zero, suc, Bool, false, nat_eq, List, [], ◌∷◌, if◌then◌else◌}
use Rattle.dl_entry.specs.declared.Point.{Point}

abbrev pub is_commit_of : (i : ℕ) → Point → Bool
is_commit_of i (Point.Commit moment j actor kind size short) = nat_eq j i
is_commit_of i (Point.Raise moment j k value) = false

-- the points up to the n-th commit of sphere i, and no further
abbrev pub points_until : (i n : ℕ) → List Point → List Point
points_until i zero ps = []
points_until i (suc n) [] = []
points_until i (suc n) (p ∷ ps) =
    if is_commit_of i p then p ∷ points_until i n ps else p ∷ points_until i (suc n) ps

-- the points after it
abbrev pub points_since : (i n : ℕ) → List Point → List Point
points_since i zero ps = ps
points_since i (suc n) [] = []
points_since i (suc n) (p ∷ ps) = if is_commit_of i p then points_since i n ps else points_since i (suc n) ps
