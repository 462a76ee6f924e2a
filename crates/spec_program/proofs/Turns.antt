-- The turn of a name to be read, among the names of a part and of the whole.
use Rattle.std.proofs.Common.{ℕ, List, [], ◌∷◌, ◌++◌, inl, inr, IsSome}
use Rattle.std.specs.FinMap.{get}
use Rattle.dl_files.specs.Contents.{Contents}
use Rattle.spec_program.specs.Ends.{IsReadNext}

-- each of the names is there
abbrev pub AreThere : Contents → List (List ℕ) → Type 0
AreThere m [] = Unit {0}
AreThere m (name ∷ names) = IsSome (get m name) × AreThere m names

-- a turn is one also with more names after
pub next_before : (m : Contents) (names more : List (List ℕ)) (name : List ℕ) → IsReadNext names m name → IsReadNext (names ++ more) m name
next_before m [] more name next = absurd next
next_before m (x ∷ xs) more name (there, inl same) = (there, inl same)
next_before m (x ∷ xs) more name (there, inr next) = (there, inr (next_before m xs more name next))

-- a turn is one also after names that are there
pub next_behind : (m : Contents) (front names : List (List ℕ)) (name : List ℕ) → AreThere m front → IsReadNext names m name → IsReadNext (front ++ names) m name
next_behind m [] names name there next = next
next_behind m (x ∷ xs) names name there next = (there.0, inr (next_behind m xs names name there.1 next))
