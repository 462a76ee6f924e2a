-- What a table of the operations by their names gives for a name is the operation of that name.
use Rattle.std.proofs.Common.{◌≡◌, ℕ, List, [], ◌∷◌, Some, map, refl, ap, if◌then◌else◌}
use Rattle.std.specs.List.{find}
use Rattle.std.specs.Str.{bytes_eq}
use Rattle.dl_asm.specs.Mnemonics.{named}

-- in a table of operations by their names, what a name names is the first operation with that name
pub named-find : {A : Type 0} (name_of : A → List ℕ) (name : List ℕ) (all : List A) → named name (map (λ a. (name_of a, a)) all) ≡ find (λ a. bytes_eq name (name_of a)) all
named-find name_of name [] = refl
named-find name_of name (a ∷ all) = ap (λ rest. if bytes_eq name (name_of a) then Some a else rest) (named-find name_of name all)
