-- When the names in a plan are in conflict.
use Rattle.std.specs.Prelude.{ℕ, ◌==◌, Bool, true, ◌&&◌, not, List, [], ◌∷◌, length, bytes_eq}
use Rattle.std.specs.List.{list_any, list_all}

-- the name is among these
abbrev pub is_one_of : List (List ℕ) → List ℕ → Bool
is_one_of names name = list_any (λ n. bytes_eq n name) names

-- none of the names is one of the others
abbrev pub none_is_one_of : List (List ℕ) → List (List ℕ) → Bool
none_is_one_of others names = list_all (λ n. not (is_one_of others n)) names

-- no two of the names are equal
abbrev pub all_differ : List (List ℕ) → Bool
all_differ [] = true
all_differ (name ∷ names) = not (is_one_of names name) && all_differ names

-- no name is empty
abbrev pub none_is_empty : List (List ℕ) → Bool
none_is_empty names = list_all (λ n. not (length n == 0)) names
