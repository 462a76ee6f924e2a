-- What a program answers for words.
use Rattle.std.specs.Prelude.{◌≡◌, ℕ, List, map}
use Rattle.std.specs.Fn.{FnOnceReturnsAt}
use denote.Ref.{Bor}
use denote.Param.Members.{Once}

-- one call of the program, with these words, may give this answer
abbrev pub Answers : {F R : Type 0} → Once F (Bor (List (Bor (List ℕ))) × Unit {0}) R → F → (words : List (List ℕ)) → (answer : R) → Type 0
Answers g program words answer = (texts : List (Bor (List ℕ))) × (map (λ text. text.now) texts ≡ words) × FnOnceReturnsAt g program texts answer
