-- How many bytes a reader has given, if it is known what it has left.
use Rattle.std.specs.Prelude.{◌≡◌, ℕ, ◌+◌, List, length, Option, None, Some}

-- that many are gone
abbrev pub Shortens : ℕ → (old new : Option (List ℕ)) → Type 0
Shortens n None new = Unit {0}
Shortens n (Some xs) None = ⊥
Shortens n (Some xs) (Some ys) = length xs ≡ n + length ys
