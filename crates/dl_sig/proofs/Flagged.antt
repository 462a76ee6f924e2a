-- Banks that are flags change and meet as their sets of places do.
use Rattle.std.proofs.Common.{◌≡◌, ℕ, ◌<◌, inl, inr, Bool, true, false, ◌&&◌, ◌||◌, eqb, List, length, set, replicate, sym, ◌∙◌, ap, arith}
use Rattle.std.proofs.lemmas.Bool.{eq-eqb, ne_eqb, cases_eq, cases_lt}
use Rattle.std.proofs.lemmas.List.{length-set, get_or-set_same, get_or-set_other, length-replicate, get_or-replicate, get_or_past}
use Rattle.std.proofs.lemmas.Simd.{length-zip2, get_or-zip2}
use Rattle.std.specs.FinSet.{union}
use Rattle.std.specs.Simd.Lanes.{zip2}
use Rattle.spec_engine.specs.Signatures.{meets}
use Rattle.dl_sig.specs.Banks.{no_place, with_place, with_places, set_below, has_flag, of_flags}
use Rattle.dl_sig.proofs.Sets.{none_below, one_more, either_below, meet_at, apart_below}

no_flag : (n p : ℕ) → has_flag (replicate n false) p ≡ false
no_flag n p =
    elim (cases_lt p n) [ inl l ↦ get_or-replicate n p false false l | inr l ↦ get_or_past (replicate n false) p false (rw (length-replicate n false) l) ]

-- n flags that are all false are the bank of n places that has none of them
pub flags_none : (n : ℕ) → of_flags (replicate n false) ≡ no_place n
flags_none n = λ i. record { size = length-replicate {A = Bool} n false i; set = none_below (has_flag (replicate n false)) (length (replicate n false)) (no_flag n) i }

flag_after : (xs : List Bool) (p q : ℕ) → p < length xs → has_flag (set xs p true) q ≡ (eqb q p || has_flag xs q)
flag_after xs p q l =
    elim (cases_eq q p) [
      | inl e ↦ ap (has_flag (set xs p true)) e ∙ get_or-set_same xs p true false l ∙ sym (λ i. eq-eqb q p e i || has_flag xs q)
      | inr ne ↦ get_or-set_other xs p q true false ne ∙ sym (λ i. ne_eqb q p ne i || has_flag xs q)
    ]

-- flags with one more set are their bank with that flag's place put in
pub flags_set : (xs : List Bool) (p : ℕ) → p < length xs → of_flags (set xs p true) ≡ with_place p (of_flags xs)
flags_set xs p l =
    let same : length (set xs p true) ≡ length xs = length-set xs p true in
    (λ i. record { size = same i; set = set_below (has_flag (set xs p true)) (same i) })
    ∙ (λ i. record { size = length xs; set = one_more (has_flag xs) (has_flag (set xs p true)) (length xs) p l (λ q. flag_after xs p q l) i })

-- ---- two banks of the same size

-- two banks of the same size meet if some flag is set in both
pub flags_meet : (xs ys : List Bool) → (of_flags ys).size ≡ (of_flags xs).size → (i : ℕ) → i < length xs → has_flag xs i ≡ true → has_flag ys i ≡ true → true ≡ meets (of_flags xs).set (of_flags ys).set
flags_meet xs ys same i l a b =
    meet_at (has_flag xs) (has_flag ys) (length xs) i l a b ∙ ap (λ (n : ℕ). meets (of_flags xs).set (set_below (has_flag ys) n)) (sym same)

-- two banks of the same size don't meet if no flag is set in both
pub flags_apart : (xs ys : List Bool) → (of_flags ys).size ≡ (of_flags xs).size → ((i : ℕ) → i < length xs → (has_flag xs i && has_flag ys i) ≡ false) → false ≡ meets (of_flags xs).set (of_flags ys).set
flags_apart xs ys same none =
    apart_below (has_flag xs) (has_flag ys) (length xs) none ∙ ap (λ (n : ℕ). meets (of_flags xs).set (set_below (has_flag ys) n)) (sym same)

-- the flags that are set in either of two banks
abbrev pub either_flags : (xs ys : List Bool) → List Bool
either_flags xs ys = zip2 ◌||◌ xs ys

-- the flags set in either of two banks of the same size are the first with the places of the second put in
pub flags_joined : (xs ys : List Bool) → (of_flags ys).size ≡ (of_flags xs).size → of_flags (either_flags xs ys) ≡ with_places (of_flags ys) (of_flags xs)
flags_joined xs ys same =
    let long : length (either_flags xs ys) ≡ length xs = length-zip2 ◌||◌ xs ys (sym same) in
    (λ i. record { size = long i; set = set_below (has_flag (either_flags xs ys)) (long i) })
    ∙ (λ i. record {
      size = length xs;
      set = either_below (has_flag xs) (has_flag ys) (has_flag (either_flags xs ys)) (length xs) (λ q l. get_or-zip2 ◌||◌ xs ys q false false false l (omega arith)) i;
    })
    ∙ (λ i. record { size = length xs; set = union (of_flags xs).set (set_below (has_flag ys) (sym same i)) })
