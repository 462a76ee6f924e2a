-- The words of a sphere that fly.
use Rattle.std.specs.Prelude.{ℕ, List, [], ◌∷◌, ◌++◌, nat_eq, Option, Some, None, if◌then◌else◌}
use Rattle.spec_isa.specs.Words.{Stored}
use Rattle.spec_engine.specs.Flights.{Flight}

-- the words left in a slot, if its flight is of sphere i
abbrev pub words_of : (i : ℕ) → Option Flight → List Stored
words_of i None = []
words_of i (Some f) = if nat_eq f.sphere i then f.words else []

-- the words left in all flights of sphere i
abbrev pub flying : (i : ℕ) → List (Option Flight) → List Stored
flying i [] = []
flying i (slot ∷ slots) = words_of i slot ++ flying i slots
