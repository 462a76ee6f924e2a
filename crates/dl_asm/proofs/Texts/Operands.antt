-- The operands of a text are the one before its first comma, and those after it.
use Rattle.std.proofs.Common.{◌≡◌, ℕ, ◌<◌, Bool, true, false, eqb, List, [], ◌∷◌, length, map, None, refl, ap, ◌∙◌, arith}
use Rattle.std.specs.List.{slice_split, onto_first}
use Rattle.std.proofs.lemmas.List.{length-map}
use Rattle.std.proofs.lemmas.List.Splits.{slice_split_first, length-slice_split}
use Rattle.dl_asm.specs.Texts.{trimmed, place_of, before, behind}
use Rattle.dl_asm.specs.Operands.{operands_in, two_of, three_of}

split-front : (c : ℕ) (cs : List ℕ) (b : Bool) → eqb c 44 ≡ b → (place_of 44 cs ≡ length cs → slice_split (λ x. eqb x 44) cs ≡ cs ∷ [])
    → place_of 44 (c ∷ cs) ≡ length (c ∷ cs) → slice_split (λ x. eqb x 44) (c ∷ cs) ≡ (c ∷ cs) ∷ []
split-front c cs true h rest e = let none = rw h at e in absurd (omega (arith, none))
split-front c cs false h rest e = let more = rw h at e in rw h (ap (onto_first c) (rest (omega (arith, more))))

-- what has no comma is one part
split-whole : (text : List ℕ) → place_of 44 text ≡ length text → slice_split (λ c. eqb c 44) text ≡ text ∷ []
split-whole [] e = refl
split-whole (c ∷ cs) e = split-front c cs (eqb c 44) refl (split-whole cs) e

-- a text with no comma is one operand
pub operands-one : (text : List ℕ) → place_of 44 text ≡ length text → operands_in text ≡ trimmed text ∷ []
operands-one text e = ap (map trimmed) (split-whole text e)

-- a text with a comma has the operand before it, and then those after it
pub operands-more : (text : List ℕ) → place_of 44 text < length text → operands_in text ≡ trimmed (before 44 text) ∷ operands_in (behind 44 text)
operands-more text l = ap (map trimmed) (slice_split_first (λ c. eqb c 44) text 0 l)

-- there is at least one
operands-some : (text : List ℕ) → 0 < length (operands_in text)
operands-some text = omega (arith, length-map (slice_split (λ c. eqb c 44) text) trimmed, length-slice_split (λ c. eqb c 44) text)

two-past : (a b : List ℕ) (texts : List (List ℕ)) → 0 < length texts → two_of (a ∷ b ∷ texts) ≡ None
two-past a b [] l = absurd (omega arith)
two-past a b (c ∷ texts) l = refl

three-past : (a b c : List ℕ) (texts : List (List ℕ)) → 0 < length texts → three_of (a ∷ b ∷ c ∷ texts) ≡ None
three-past a b c [] l = absurd (omega arith)
three-past a b c (d ∷ texts) l = refl

-- neither two nor three, if others follow them
pub two-of-more : (texts : List (List ℕ)) (a b rest more : List ℕ) → texts ≡ a ∷ operands_in rest → operands_in rest ≡ b ∷ operands_in more → two_of texts ≡ None
two-of-more texts a b rest more e f = ap two_of (e ∙ ap (λ t. a ∷ t) f) ∙ two-past a b (operands_in more) (operands-some more)

-- a text with more than three operands doesn't have three
pub three-of-more : (texts : List (List ℕ)) (a b c rest more last : List ℕ) → texts ≡ a ∷ operands_in rest → operands_in rest ≡ b ∷ operands_in more → operands_in more ≡ c ∷ operands_in last → three_of texts ≡ None
three-of-more texts a b c rest more last e f g =
    ap three_of (e ∙ ap (λ t. a ∷ t) (f ∙ ap (λ t. b ∷ t) g)) ∙ three-past a b c (operands_in last) (operands-some last)
