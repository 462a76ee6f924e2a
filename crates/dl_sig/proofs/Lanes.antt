-- Two lists of words share a bit if eight lanes do, or a single word, or what is left of them.
use Rattle.std.proofs.Common.{◌≡◌, ◌≢◌, ℕ, zero, suc, ◌+◌, ◌<◌, inl, inr, Bool, true, false, not, ◌||◌, eqb, List, [], ◌∷◌, length, get_or, take, drop, refl, sym, ◌∙◌, ap, arith, bit_and, bit_or}
use Rattle.std.proofs.lemmas.Bool.{eq-eqb, ne_eqb, cases_eq}
use Rattle.std.proofs.lemmas.Nat.{and_le_r}
use Rattle.std.proofs.Math.Seq.{drop-drop, drop-cons}
use Rattle.std.specs.Int.Bits.{or_add_and, or_zero_l}
use Rattle.std.specs.Simd.Lanes.{zip2, fold_l, chunk}
use Rattle.dl_sig.specs.Words.{share}

or_assoc : (a b c : Bool) → ((a || b) || c) ≡ (a || (b || c))
or_assoc true b c = refl
or_assoc false b c = refl

or_false : (a : Bool) → a ≡ (a || false)
or_false true = refl
or_false false = refl

-- ---- the ands of all lanes, or-ed together

some_or : (a b : ℕ) → not (eqb (bit_or a b) 0) ≡ (not (eqb a 0) || not (eqb b 0))
some_or a b =
    elim (cases_eq a 0) [
      | inl e ↦ (λ i. not (eqb (bit_or (e i) b) 0)) ∙ ap (λ (n : ℕ). not (eqb n 0)) (or_zero_l b) ∙ sym (λ i. not (eq-eqb a 0 e i) || not (eqb b 0))
      | inr ne ↦
          let some : bit_or a b ≢ 0 = let s = or_add_and a b in let l = and_le_r a b in omega arith in
          (λ i. not (ne_eqb (bit_or a b) 0 some i)) ∙ sym (λ i. not (ne_eqb a 0 ne i) || not (eqb b 0))
    ]

fold_some : (a : ℕ) (ws vs : List ℕ) → not (eqb (fold_l bit_or a (zip2 bit_and ws vs)) 0) ≡ (not (eqb a 0) || share ws vs)
fold_some a [] vs = or_false (not (eqb a 0))
fold_some a (w ∷ ws) [] = or_false (not (eqb a 0))
fold_some a (w ∷ ws) (v ∷ vs) =
    fold_some (bit_or a (bit_and w v)) ws vs ∙
    ap (λ (b : Bool). b || share ws vs) (some_or a (bit_and w v)) ∙
    or_assoc (not (eqb a 0)) (not (eqb (bit_and w v) 0)) (share ws vs)

-- the ands of two lists' words, joined by or, aren't 0 exactly if the lists share a bit
pub fold_share : (ws vs : List ℕ) → not (eqb (fold_l bit_or 0 (zip2 bit_and ws vs)) 0) ≡ share ws vs
fold_share ws vs = fold_some 0 ws vs

-- ---- what is left

-- whether the words from place i on share a bit with the others from there on
abbrev pub share_from : (words others : List ℕ) (i : ℕ) → Bool
share_from ws vs i = share (drop i ws) (drop i vs)

share_none : (ws : List ℕ) → share ws [] ≡ false
share_none [] = refl
share_none (w ∷ ws) = refl

share_parts : (n : ℕ) (ws vs : List ℕ) → share ws vs ≡ (share (take n ws) (take n vs) || share (drop n ws) (drop n vs))
share_parts zero ws vs = refl
share_parts (suc n) [] vs = refl
share_parts (suc n) (w ∷ ws) [] = sym (share_none (drop n ws))
share_parts (suc n) (w ∷ ws) (v ∷ vs) =
    ap (λ (b : Bool). not (eqb (bit_and w v) 0) || b) (share_parts n ws vs) ∙
    sym (or_assoc (not (eqb (bit_and w v) 0)) (share (take n ws) (take n vs)) (share (drop n ws) (drop n vs)))

-- the eight lanes from s on, and what is left after them
split_lanes : (ws vs : List ℕ) (s : ℕ) → share_from ws vs s ≡ (share (chunk s 8 ws) (chunk s 8 vs) || share_from ws vs (s + 8))
split_lanes ws vs s =
    share_parts 8 (drop s ws) (drop s vs) ∙
    (λ i. share (chunk s 8 ws) (chunk s 8 vs) || share (drop-drop 8 s ws i) (drop-drop 8 s vs i))

-- if what is left decides, and its next eight words share a bit, the lists do
pub lanes_found : (ws vs : List ℕ) (s : ℕ) → share_from ws vs s ≡ share ws vs → share (chunk s 8 ws) (chunk s 8 vs) ≡ true → true ≡ share ws vs
lanes_found ws vs s whole found = sym (ap (λ (b : Bool). b || share_from ws vs (s + 8)) found) ∙ sym (split_lanes ws vs s) ∙ whole

-- if what is left decides, and its next eight words share no bit, what is left after them decides
pub lanes_passed : (ws vs : List ℕ) (s : ℕ) → share_from ws vs s ≡ share ws vs → share (chunk s 8 ws) (chunk s 8 vs) ≡ false → share_from ws vs (s + 8) ≡ share ws vs
lanes_passed ws vs s whole none = sym (ap (λ (b : Bool). b || share_from ws vs (s + 8)) none) ∙ sym (split_lanes ws vs s) ∙ whole

-- the word at i, and what is left after it
split_word : (ws vs : List ℕ) (i : ℕ) → i < length ws → i < length vs → share_from ws vs i ≡ (not (eqb (bit_and (get_or ws i 0) (get_or vs i 0)) 0) || share_from ws vs (suc i))
split_word ws vs i l m = λ j. share (drop-cons ws i 0 l j) (drop-cons vs i 0 m j)

-- if what is left decides, and its next word shares a bit, the lists do
pub word_found : (ws vs : List ℕ) (i : ℕ) → i < length ws → i < length vs → share_from ws vs i ≡ share ws vs → bit_and (get_or ws i 0) (get_or vs i 0) ≢ 0 → true ≡ share ws vs
word_found ws vs i l m whole ne =
    sym (λ j. not (ne_eqb (bit_and (get_or ws i 0) (get_or vs i 0)) 0 ne j) || share_from ws vs (suc i)) ∙ sym (split_word ws vs i l m) ∙ whole

-- if what is left decides, and its next word shares no bit, what is left after it decides
pub word_passed : (ws vs : List ℕ) (i : ℕ) → i < length ws → i < length vs → share_from ws vs i ≡ share ws vs → bit_and (get_or ws i 0) (get_or vs i 0) ≡ 0 → share_from ws vs (suc i) ≡ share ws vs
word_passed ws vs i l m whole none =
    sym (λ j. not (eq-eqb (bit_and (get_or ws i 0) (get_or vs i 0)) 0 none j) || share_from ws vs (suc i)) ∙ sym (split_word ws vs i l m) ∙ whole

-- if what is left decides, and no word is left, the lists share no bit
pub all_passed : (ws vs : List ℕ) (i : ℕ) → i ≡ length ws → share_from ws vs i ≡ share ws vs → false ≡ share ws vs
all_passed ws vs i all whole = sym (past ws vs i all) ∙ whole
  where
    past : (ws vs : List ℕ) (i : ℕ) → i ≡ length ws → share_from ws vs i ≡ false
    past [] vs zero e = refl
    past [] vs (suc i) e = refl
    past (w ∷ ws) vs zero e = absurd (omega arith)
    past (w ∷ ws) [] (suc i) e = share_none (drop i ws)
    past (w ∷ ws) (v ∷ vs) (suc i) e = past ws vs i (omega arith)
