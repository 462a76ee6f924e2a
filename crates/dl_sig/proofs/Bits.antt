-- Banks that are words of 32 bits change and meet as their sets of places do.
use Rattle.std.proofs.Common.{◌≡◌, ◌≢◌, ℕ, zero, suc, ◌+◌, ◌*◌, ◌/◌, ◌%◌, ◌^◌, ◌<◌, inl, inr, true, false, not, ◌&&◌, ◌||◌, eqb, max, List, [], ◌∷◌, length, get_or, set, replicate, refl, sym, ◌∙◌, ap, arith, bit_and, bit_or, w32, Fits}
use Rattle.std.proofs.lemmas.Bool.{true≢false, eq-eqb, ne_eqb, eqb-true, not-false, cases_eq, cases_lt, cases_Bool, and_parts, or_parts, false_from_ne_true}
use Rattle.std.proofs.lemmas.List.{length-set, get_or-set_same, get_or-set_other, length-replicate, get_or-replicate, get_or_past}
use Rattle.std.proofs.lemmas.Nat.{and_le_l}
use Rattle.std.proofs.lemmas.Simd.{length-zip2, get_or-zip2}
use Rattle.std.proofs.lemmas.Nat.Bits.{bit_at_and, bit_at_or, bit_at-lt, bit_at-zero, bit_at_set_same, bit_at_set_other, bit_at-trailing_zeros}
use Rattle.std.specs.FinSet.{union}
use Rattle.std.specs.Int.{bit_at, trailing_zeros}
use Rattle.spec_engine.specs.Signatures.{meets}
use Rattle.dl_sig.specs.Banks.{Places, no_place, with_place, with_places, set_below, has_bit, of_words}
use Rattle.dl_sig.specs.Words.{share, joined}
use Rattle.dl_sig.proofs.Sets.{none_below, one_more, either_below, meet_at, apart_below}

-- banks of the same size have the same number of words
pub same_words : (ws vs : List ℕ) (b other : Places) → of_words ws ≡ b → of_words vs ≡ other → other.size ≡ b.size → length vs ≡ length ws
same_words ws vs b other e f same =
    let sizes : 32 * length vs ≡ 32 * length ws = ap (λ (p : Places). p.size) f ∙ same ∙ sym (ap (λ (p : Places). p.size) e) in
    omega arith

-- ---- a new bank

no_bit : (n p : ℕ) → has_bit (replicate n 0) p ≡ false
no_bit n p =
    ap (λ (w : ℕ). eqb (bit_at w (p % 32)) 1)
    (elim (cases_lt (p / 32) n) [ inl l ↦ get_or-replicate n (p / 32) 0 0 l | inr l ↦ get_or_past (replicate {A = ℕ} n 0) (p / 32) 0 (rw (length-replicate {A = ℕ} n 0) l) ])
    ∙ ap (λ (b : ℕ). eqb b 1) (bit_at-zero (p % 32))

-- n words that are all 0 are the bank of 32 * n places that has none of them
pub words_none : (n : ℕ) → of_words (replicate n 0) ≡ no_place (32 * n)
words_none n = λ i. record { size = 32 * length-replicate {A = ℕ} n 0 i; set = none_below (has_bit (replicate {A = ℕ} n 0)) (32 * length (replicate {A = ℕ} n 0)) (no_bit n) i }

-- ---- a bit set

abbrev with_bit : List ℕ → (p : ℕ) → List ℕ
with_bit ws p = set ws (p / 32) (bit_or (get_or ws (p / 32) 0) (1 * 2 ^ (p % 32) % 2 ^ 32))

bit_other : (ws : List ℕ) (p q : ℕ) → p / 32 < length ws → q ≢ p → has_bit (with_bit ws p) q ≡ has_bit ws q
bit_other ws p q l ne =
    elim (cases_eq (q / 32) (p / 32)) [
      | inl e ↦
          let other : q % 32 ≢ p % 32 = λ (r : q % 32 ≡ p % 32). ne (omega arith) in
          ap (λ (k : ℕ). eqb (bit_at (get_or (with_bit ws p) k 0) (q % 32)) 1) e
          ∙ ap (λ (w : ℕ). eqb (bit_at w (q % 32)) 1) (get_or-set_same ws (p / 32) _ 0 l)
          ∙ ap (λ (b : ℕ). eqb b 1) (bit_at_set_other w32 (get_or ws (p / 32) 0) (p % 32) (omega arith) (q % 32) other)
          ∙ sym (ap (λ (k : ℕ). eqb (bit_at (get_or ws k 0) (q % 32)) 1) e)
      | inr d ↦ ap (λ (w : ℕ). eqb (bit_at w (q % 32)) 1) (get_or-set_other ws (p / 32) (q / 32) _ 0 d)
    ]

bit_same : (ws : List ℕ) (p : ℕ) → p / 32 < length ws → has_bit (with_bit ws p) p ≡ true
bit_same ws p l =
    ap (λ (w : ℕ). eqb (bit_at w (p % 32)) 1) (get_or-set_same ws (p / 32) _ 0 l)
    ∙ ap (λ (b : ℕ). eqb b 1) (bit_at_set_same w32 (get_or ws (p / 32) 0) (p % 32) (omega arith))

bit_after : (ws : List ℕ) (p q : ℕ) → p / 32 < length ws → has_bit (with_bit ws p) q ≡ (eqb q p || has_bit ws q)
bit_after ws p q l =
    elim (cases_eq q p) [
      | inl e ↦ ap (has_bit (with_bit ws p)) e ∙ bit_same ws p l ∙ sym (λ i. eq-eqb q p e i || has_bit ws q)
      | inr ne ↦ bit_other ws p q l ne ∙ sym (λ i. ne_eqb q p ne i || has_bit ws q)
    ]

-- words with one more bit set are their bank with the bit's place put in
pub words_set : (ws : List ℕ) (p : ℕ) → p < 32 * length ws → of_words (with_bit ws p) ≡ with_place p (of_words ws)
words_set ws p l =
    let same : length (with_bit ws p) ≡ length ws = length-set ws (p / 32) _ in
    (λ i. record { size = 32 * same i; set = set_below (has_bit (with_bit ws p)) (32 * same i) })
    ∙ (λ i. record { size = 32 * length ws; set = one_more (has_bit ws) (has_bit (with_bit ws p)) (32 * length ws) p l (λ q. bit_after ws p q (omega arith)) i })

-- ---- the bits of either

either_digit : (a b : ℕ) → a < 2 → b < 2 → eqb (max a b) 1 ≡ (eqb a 1 || eqb b 1)
either_digit zero zero l m = refl
either_digit zero (suc zero) l m = refl
either_digit (suc zero) zero l m = refl
either_digit (suc zero) (suc zero) l m = refl
either_digit (suc (suc a)) b l m = absurd (omega arith)
either_digit a (suc (suc b)) l m = absurd (omega arith)

either_bit : (a b k : ℕ) → eqb (bit_at (bit_or a b) k) 1 ≡ (eqb (bit_at a k) 1 || eqb (bit_at b k) 1)
either_bit a b k = ap (λ (n : ℕ). eqb n 1) (bit_at_or a b k) ∙ either_digit (bit_at a k) (bit_at b k) (bit_at-lt a k) (bit_at-lt b k)

bit_of_either : (ws vs : List ℕ) (p : ℕ) → p / 32 < length ws → p / 32 < length vs → has_bit (joined ws vs) p ≡ (has_bit ws p || has_bit vs p)
bit_of_either ws vs p l m =
    ap (λ (w : ℕ). eqb (bit_at w (p % 32)) 1) (get_or-zip2 bit_or ws vs (p / 32) 0 0 0 l m) ∙ either_bit (get_or ws (p / 32) 0) (get_or vs (p / 32) 0) (p % 32)

-- words with the bits of as many others set too are their bank with the others' places put in
pub words_joined : (ws vs : List ℕ) → length vs ≡ length ws → of_words (joined ws vs) ≡ with_places (of_words vs) (of_words ws)
words_joined ws vs same =
    let long : length (joined ws vs) ≡ length ws = length-zip2 bit_or ws vs (sym same) in
    (λ i. record { size = 32 * long i; set = set_below (has_bit (joined ws vs)) (32 * long i) })
    ∙ (λ i. record {
      size = 32 * length ws;
      set = either_below (has_bit ws) (has_bit vs) (has_bit (joined ws vs)) (32 * length ws) (λ q l. bit_of_either ws vs q (omega arith) (omega arith)) i;
    })
    ∙ (λ i. record { size = 32 * length ws; set = union (of_words ws).set (set_below (has_bit vs) (32 * sym same i)) })

-- ---- bits in common

word_meets : (ws vs : List ℕ) (i : ℕ) → i < length ws → get_or ws i 0 < 2 ^ 32 → bit_and (get_or ws i 0) (get_or vs i 0) ≢ 0 → true ≡ meets (of_words ws).set (set_below (has_bit vs) (32 * length ws))
word_meets ws vs i l small ne =
    let a = get_or ws i 0 in
    let b = get_or vs i 0 in
    let both = bit_and a b in
    let le = and_le_l a b in
    let bound : both < 2 ^ 32 = omega arith in
    let k = trailing_zeros w32 both in
    let found = bit_at-trailing_zeros w32 both (omega arith) bound in
    let is = bit_at_and a b k in
    let la = bit_at-lt a k in
    let lb = bit_at-lt b k in
    let one = found.1 in
    let place : (32 * i + k) / 32 ≡ i = let h = found.0 in omega arith in
    let rest : (32 * i + k) % 32 ≡ k = let h = found.0 in omega arith in
    let has_a : bit_at a k ≡ 1 = grind arith in
    let has_b : bit_at b k ≡ 1 = grind arith in
    meet_at (has_bit ws) (has_bit vs) (32 * length ws) (32 * i + k) (let h = found.0 in omega arith)
    ((λ j. eqb (bit_at (get_or ws (place j) 0) (rest j)) 1) ∙ eq-eqb (bit_at a k) 1 has_a)
    ((λ j. eqb (bit_at (get_or vs (place j) 0) (rest j)) 1) ∙ eq-eqb (bit_at b k) 1 has_b)

no_both : (a b k : ℕ) → bit_and a b ≡ 0 → (eqb (bit_at a k) 1 && eqb (bit_at b k) 1) ≡ false
no_both a b k none =
    false_from_ne_true (eqb (bit_at a k) 1 && eqb (bit_at b k) 1)
    (λ e.
    let p = and_parts (eqb (bit_at a k) 1) (eqb (bit_at b k) 1) e in
    let x = eqb-true (bit_at a k) 1 p.0 in
    let y = eqb-true (bit_at b k) 1 p.1 in
    let z : bit_at (bit_and a b) k ≡ 0 = ap (λ (n : ℕ). bit_at n k) none ∙ bit_at-zero k in
    let is = bit_at_and a b k in
    grind arith)

word_apart : (ws vs : List ℕ) → ((i : ℕ) → i < length ws → bit_and (get_or ws i 0) (get_or vs i 0) ≡ 0) → false ≡ meets (of_words ws).set (set_below (has_bit vs) (32 * length ws))
word_apart ws vs none =
    apart_below (has_bit ws) (has_bit vs) (32 * length ws) (λ p l. no_both (get_or ws (p / 32) 0) (get_or vs (p / 32) 0) (p % 32) (none (p / 32) (omega arith)))

-- two banks of the same size

words_meet : (ws vs : List ℕ) → (of_words vs).size ≡ (of_words ws).size → (i : ℕ) → i < length ws → get_or ws i 0 < 2 ^ 32 → bit_and (get_or ws i 0) (get_or vs i 0) ≢ 0 → true ≡ meets (of_words ws).set (of_words vs).set
words_meet ws vs same i l small ne =
    word_meets ws vs i l small ne ∙ ap (λ (n : ℕ). meets (of_words ws).set (set_below (has_bit vs) n)) (sym same)

words_apart : (ws vs : List ℕ) → (of_words vs).size ≡ (of_words ws).size → ((i : ℕ) → i < length ws → bit_and (get_or ws i 0) (get_or vs i 0) ≡ 0) → false ≡ meets (of_words ws).set (of_words vs).set
words_apart ws vs same none =
    word_apart ws vs none ∙ ap (λ (n : ℕ). meets (of_words ws).set (set_below (has_bit vs) n)) (sym same)

some_shared : (ws vs : List ℕ) → share ws vs ≡ true → (i : ℕ) × (i < length ws) × (bit_and (get_or ws i 0) (get_or vs i 0) ≢ 0)
some_shared [] vs e = absurd (true≢false (sym e))
some_shared (w ∷ ws) [] e = absurd (true≢false (sym e))
some_shared (w ∷ ws) (v ∷ vs) e =
    elim (cases_eq (bit_and w v) 0) [
      | inl z ↦
          let later = some_shared ws vs (sym (λ j. not (eq-eqb (bit_and w v) 0 z j) || share ws vs) ∙ e) in
          (suc later.0, omega (arith, later.1), later.2)
      | inr ne ↦ (0, omega arith, ne)
    ]

none_shared : (ws vs : List ℕ) → share ws vs ≡ false → length vs ≡ length ws → (i : ℕ) → i < length ws → bit_and (get_or ws i 0) (get_or vs i 0) ≡ 0
none_shared [] vs e same i l = absurd (omega arith)
none_shared (w ∷ ws) [] e same i l = absurd (omega arith)
none_shared (w ∷ ws) (v ∷ vs) e same zero l = eqb-true (bit_and w v) 0 (not-false _ (or_parts (not (eqb (bit_and w v) 0)) (share ws vs) e).0)
none_shared (w ∷ ws) (v ∷ vs) e same (suc i) l = none_shared ws vs (or_parts (not (eqb (bit_and w v) 0)) (share ws vs) e).1 (omega arith) i (omega arith)

-- words of 32 bits share a bit with the same number of others exactly if their banks meet
pub words_share : (ws vs : List ℕ) → length vs ≡ length ws → ((i : ℕ) → Fits w32 (get_or ws i 0)) → share ws vs ≡ meets (of_words ws).set (of_words vs).set
words_share ws vs same small =
    let sizes : 32 * length vs ≡ 32 * length ws = ap (λ (n : ℕ). 32 * n) same in
    elim (cases_Bool (share ws vs)) [
      | inl e ↦ let found = some_shared ws vs e in e ∙ words_meet ws vs sizes found.0 found.1 (let fits = small found.0 in omega arith) found.2
      | inr e ↦ e ∙ words_apart ws vs sizes (none_shared ws vs e same)
    ]
