-- The words of a line are the first one, after any spaces, and those after that.
use Rattle.std.proofs.Common.{◌≡◌, ℕ, ◌<◌, ◌≤◌, ◌≢◌, not, eqb, List, [], ◌∷◌, ◌++◌, length, take, drop, get_or, refl, sym, ap, ◌∙◌, ◌⊎◌, inl, inr, arith, suc, zero, subst, ap₂, length-take, false, Option, Some, None, MatchOption, unwrap_or}
use Rattle.std.specs.List.{All, AllWithin, HoldsAt, filter, slice_split}
use Rattle.std.specs.Str.{bytes_eq}
use Rattle.std.proofs.Math.Nat.{eq-or-lt_of_le}
use Rattle.std.proofs.Math.Seq.{drop-cons}
use Rattle.std.proofs.lemmas.Bool.{ne_eqb}
use Rattle.std.proofs.lemmas.List.{take-append-drop, get_or-take, drop_all, take_all}
use Rattle.std.proofs.lemmas.List.Splits.{slice_split_none, slice_split_at}
use Rattle.dl_event.specs.Line.{words_of}

-- the first n bytes are spaces, or none of them is
abbrev pub IsSpaces : ℕ → List ℕ → Type 0
IsSpaces n line = (k d : ℕ) → k < n → get_or line k d ≡ 32

abbrev pub HasNoSpace : ℕ → List ℕ → Type 0
HasNoSpace n line = (k d : ℕ) → k < n → get_or line k d ≢ 32

-- spaces at the front of a line change none of its words
pub words-spaces : (n : ℕ) (line : List ℕ) → n ≤ length line → IsSpaces n line → words_of line ≡ words_of (drop n line)
words-spaces zero line l h = refl
words-spaces (suc n) [] l h = absurd (omega arith)
words-spaces (suc n) (x ∷ xs) l h = ap (λ b. words_of (b ∷ xs)) (h 0 0 (omega arith)) ∙ words-spaces n xs (omega arith) (λ k d m. h (suc k) d (omega arith))

-- a line of nothing but spaces has no word
pub words-blank : (line : List ℕ) → IsSpaces (length line) line → words_of line ≡ []
words-blank line h = words-spaces (length line) line (omega arith) h ∙ ap words_of (drop_all (length line) line (omega arith))

abbrev splits : List ℕ → List (List ℕ)
splits line = slice_split (λ byte. eqb byte 32) line

abbrev some_words : List (List ℕ) → List (List ℕ)
some_words parts = filter (λ word. not (bytes_eq word [])) parts

some_words-cons : (word : List ℕ) (parts : List (List ℕ)) → 0 < length word → some_words (word ∷ parts) ≡ word ∷ some_words parts
some_words-cons [] parts l = absurd (omega arith)
some_words-cons (b ∷ bs) parts l = refl

no_space : (n : ℕ) (line : List ℕ) → HasNoSpace n line → All (λ b. eqb b 32 ≡ false) (take n line)
no_space n line h k d l =
    let m : k < n = omega (arith, length-take n line) in
    ap (λ b. eqb b 32) (get_or-take n line k d m) ∙ ne_eqb (get_or line k d) 32 (h k d m)

-- a word that ends the line, and one before a space
words-last : (word : List ℕ) → 0 < length word → All (λ b. eqb b 32 ≡ false) word → words_of word ≡ word ∷ []
words-last word l h = ap some_words (slice_split_none (λ byte. eqb byte 32) word h) ∙ some_words-cons word [] l

words-before : (word rest : List ℕ) → 0 < length word → All (λ b. eqb b 32 ≡ false) word → words_of (word ++ 32 ∷ rest) ≡ word ∷ words_of (32 ∷ rest)
words-before word rest l h = ap some_words (slice_split_at (λ byte. eqb byte 32) word 32 rest h refl) ∙ some_words-cons word (splits rest) l

words-here : (n : ℕ) (line : List ℕ) → 0 < n → HasNoSpace n line → ((d : ℕ) → n < length line → get_or line n d ≡ 32) → (n ≡ length line) ⊎ (n < length line) → words_of line ≡ take n line ∷ words_of (drop n line)
words-here n line some h e (inl is) =
    let whole : take n line ≡ line = take_all n line (omega arith) in
    let none : drop n line ≡ [] = drop_all n line (omega arith) in
    let all = subst (All (λ b. eqb b 32 ≡ false)) whole (no_space n line h) in
    words-last line (omega arith) all ∙ ap₂ (λ w t. w ∷ words_of t) (sym whole) (sym none)
words-here n line some h e (inr l) =
    let word = take n line in
    let rest = drop (suc n) line in
    let d : drop n line ≡ 32 ∷ rest = drop-cons line n 0 l ∙ ap (λ b. b ∷ rest) (e 0 l) in
    ap words_of (sym (take-append-drop n line)) ∙ ap (λ t. words_of (word ++ t)) d
    ∙ words-before word rest (omega (arith, length-take n line)) (no_space n line h) ∙ ap (λ t. word ∷ words_of t) (sym d)

-- the word that ends where the line ends, or at the first space
pub words-word : (n : ℕ) (line : List ℕ) → 0 < n → n ≤ length line → HasNoSpace n line → ((d : ℕ) → n < length line → get_or line n d ≡ 32) → words_of line ≡ take n line ∷ words_of (drop n line)
words-word n line some l h e = words-here n line some h e (eq-or-lt_of_le l)

-- where the first space is, if there is one
abbrev pub IsFirstSpace : List ℕ → Option ℕ → Type 0
IsFirstSpace line r = MatchOption r (AllWithin (λ b. b ≢ 32) line 0 (length line)) (λ i. (i < length line) × HoldsAt (λ b. b ≡ 32) line i × AllWithin (λ b. b ≢ 32) line 0 i)

-- a line that doesn't begin with a space begins with the word up to the first space, or to its end
pub words-split : (line : List ℕ) (r : Option ℕ) → 0 < length line → get_or line 0 0 ≢ 32 → IsFirstSpace line r → words_of line ≡ take (unwrap_or r (length line)) line ∷ words_of (drop (unwrap_or r (length line)) line)
words-split line None some word h = words-word (length line) line some (omega arith) (λ k d l. h k d (omega arith) l) (λ d l. absurd (omega arith))
words-split line (Some zero) some word h = absurd (word (h.1 0))
words-split line (Some (suc i)) some word h = words-word (suc i) line (omega arith) (omega (arith, h.0)) (λ k d l. h.2 k d (omega arith) l) (λ d l. h.1 d)
