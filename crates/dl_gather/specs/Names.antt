-- Whose a name is that a line tells of.
use Rattle.std.specs.Prelude.{ℕ, List, Contains, Option, None, Some}
use Rattle.dl_files.specs.Contents.{Contents}

-- it is so of what the files hold, if they tell it; if they don't, of some contents
abbrev pub MayHold : (known : Option Contents) → (Contents → Type 0) → Type 0
MayHold None P = (m : Contents) × P m
MayHold (Some m) P = P m

-- it is one of the names that are given by what the files hold
abbrev pub IsNamed : (known : Option Contents) → (names : Contents → List (List ℕ)) → (name : List ℕ) → Type 0
IsNamed known names name = MayHold known (λ m. Contains (names m) name)
