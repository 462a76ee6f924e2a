-- The laws of signatures.
use Rattle.std.proofs.Common.{◌≡◌, ◌≢◌, ◌||◌, inl, inr, ℕ, Bool, true, false, not, ◌&&◌, eqb, refl, sym, ◌∙◌, ap, rules}
use Rattle.std.proofs.lemmas.Bool.{true≢false, and_from, and_left, and_right, cases_eq, cases_Bool, and_parts, false_from_ne_true, true_from_ne_false, eqb-true, not-false}
use Rattle.std.specs.Cmp.{nat_cmp_total}
use Rattle.std.specs.FinSet as set
use Rattle.std.specs.FinSet.{members, contains-empty, contains-intersection, empty_of_len, len-empty, same_set, nat_cmp-IsAntisymmetric}
use Rattle.std.specs.Ordering.{nat_cmp}
use Rattle.spec_engine.specs.Signatures.{Signature, low_place, high_place, nothing, insert, covers, meets, hits}

-- ---- two sets that share a place, or none

abbrev both : set.FinSet nat_cmp → set.FinSet nat_cmp → ℕ → Bool
both s t p = set.contains s p && set.contains t p

-- sets that don't meet have no place in common
pub apart_at : (s t : set.FinSet nat_cmp) → meets s t ≡ false → (p : ℕ) → both s t p ≡ false
unfolding meets
apart_at s t e p =
    let none : set.intersection s t ≡ set.empty = empty_of_len (set.intersection s t) (eqb-true _ 0 (not-false _ e)) in
    sym (contains-intersection nat_cmp_total s t p) ∙ ap (λ (u : set.FinSet nat_cmp). set.contains u p) none ∙ contains-empty nat_cmp p

-- sets with no place in common don't meet
pub apart_from : (s t : set.FinSet nat_cmp) → ((p : ℕ) → both s t p ≡ false) → meets s t ≡ false
unfolding meets
apart_from s t each =
    let none : set.intersection s t ≡ set.empty =
    same_set nat_cmp_total nat_cmp-IsAntisymmetric _ _ (λ p. contains-intersection nat_cmp_total s t p ∙ each p ∙ sym (contains-empty nat_cmp p))
    in
    ap (λ (u : set.FinSet nat_cmp). not (eqb (set.len u) 0)) none ∙ ap (λ (n : ℕ). not (eqb n 0)) (len-empty nat_cmp)

-- sets with a place in common meet
pub meets_at : (s t : set.FinSet nat_cmp) (p : ℕ) → set.contains s p ≡ true → set.contains t p ≡ true → meets s t ≡ true
meets_at s t p a b =
    true_from_ne_false (meets s t) (λ e. true≢false (sym (and_from (set.contains s p) (set.contains t p) a b) ∙ apart_at s t e p))

-- sets still meet when they have more places
pub meets_more : (s t u v : set.FinSet nat_cmp) → ((p : ℕ) → both s t p ≡ true → both u v p ≡ true) → meets s t ≡ true → meets u v ≡ true
meets_more s t u v more met =
    true_from_ne_false (meets u v)
    (λ e. true≢false (sym met ∙ apart_from s t (λ p. false_from_ne_true (both s t p) (λ h. true≢false (sym (more p h) ∙ apart_at u v e p)))))

-- ---- signatures

-- a signature covers a line inserted into it
pub covers_insert : (l : ℕ) (g : Signature) → covers (insert l g) l ≡ true
covers_insert l g = grind (members, rules)

-- a signature covers after an insert what it covered before
pub covers_more : (l k : ℕ) (g : Signature) → covers g k ≡ true → covers (insert l g) k ≡ true
covers_more l k g e = grind (members, rules)

-- two signatures of the same size that cover the same line hit
pub covers_hit : (g h : Signature) (l : ℕ) → h.bits ≡ g.bits → covers g l ≡ true → covers h l ≡ true → hits g h ≡ true
covers_hit g h l same a b =
    let p = and_parts (set.contains g.low (low_place g.bits l)) (set.contains g.high (high_place g.bits l)) a in
    let q = and_parts (set.contains h.low (low_place h.bits l)) (set.contains h.high (high_place h.bits l)) b in
    and_from (meets g.low h.low) (meets g.high h.high)
    (meets_at g.low h.low (low_place g.bits l) p.0 (ap (λ (n : ℕ). set.contains h.low (low_place n l)) (sym same) ∙ q.0))
    (meets_at g.high h.high (high_place g.bits l) p.1 (ap (λ (n : ℕ). set.contains h.high (high_place n l)) (sym same) ∙ q.1))

more_right : (s t : set.FinSet nat_cmp) (a : ℕ) → meets s t ≡ true → meets s (set.insert t a) ≡ true
more_right s t a = meets_more s t s (set.insert t a) (λ p e. grind (members, rules))

more_left : (s t : set.FinSet nat_cmp) (a : ℕ) → meets s t ≡ true → meets (set.insert s a) t ≡ true
more_left s t a = meets_more s t (set.insert s a) t (λ p e. grind (members, rules))

-- signatures that hit still do so after an insert into the second
pub hits_more : (l : ℕ) (g h : Signature) → hits g h ≡ true → hits g (insert l h) ≡ true
hits_more l g h e =
    let p = and_parts (meets g.low h.low) (meets g.high h.high) e in
    and_from (meets g.low (insert l h).low) (meets g.high (insert l h).high) (more_right g.low h.low _ p.0) (more_right g.high h.high _ p.1)

-- signatures that hit still do so after an insert into the first
pub hits_more_left : (l : ℕ) (g h : Signature) → hits g h ≡ true → hits (insert l g) h ≡ true
hits_more_left l g h e =
    let p = and_parts (meets g.low h.low) (meets g.high h.high) e in
    and_from (meets (insert l g).low h.low) (meets (insert l g).high h.high) (more_left g.low h.low _ p.0) (more_left g.high h.high _ p.1)

-- ---- one line alone

one_low : (s : set.FinSet nat_cmp) (a : ℕ) → meets s (set.insert set.empty a) ≡ set.contains s a
one_low s a =
    elim (set.contains s a) as (λ b. set.contains s a ≡ b → meets s (set.insert set.empty a) ≡ b) [
      | true ↦ λ e. meets_at s (set.insert set.empty a) a e (grind (members, rules))
      | false ↦ λ e. apart_from s (set.insert set.empty a) (λ p. grind (members, rules))
    ] refl

-- a signature hits the signature of a single line exactly if it covers that line
pub hits_one : (g : Signature) (l : ℕ) → hits g (insert l (nothing g.bits)) ≡ covers g l
hits_one g l = (λ i. one_low g.low (low_place g.bits l) i && one_low g.high (high_place g.bits l) i)

-- ---- whether two sets share a place, by one place at a time

-- a set doesn't meet the empty set
pub meets-empty : (s : set.FinSet nat_cmp) → meets s set.empty ≡ false
meets-empty s = apart_from s set.empty (λ p. and_right (set.contains s p) (set.contains set.empty p) (contains-empty nat_cmp p))

-- the empty set doesn't meet any set
pub meets-empty_left : (s : set.FinSet nat_cmp) → meets set.empty s ≡ false
meets-empty_left s = apart_from set.empty s (λ p. and_left (set.contains set.empty p) (set.contains s p) (contains-empty nat_cmp p))

apart_more : (s t : set.FinSet nat_cmp) (k p : ℕ) → set.contains s k ≡ false → both s t p ≡ false → both s (set.insert t k) p ≡ false
apart_more s t k p lacks apart =
    elim (cases_eq p k) [
      | inl e ↦ and_left (set.contains s p) (set.contains (set.insert t k) p) (ap (set.contains s) e ∙ lacks)
      | inr ne ↦ ap (λ (b : Bool). set.contains s p && b) (other t k p ne) ∙ apart
    ]
  where
    other : (t : set.FinSet nat_cmp) (k p : ℕ) → p ≢ k → set.contains (set.insert t k) p ≡ set.contains t p
    other t k p ne = grind (members, rules)

-- a set meets another with one more place exactly if it has the place or met the other
pub meets-insert : (s t : set.FinSet nat_cmp) (k : ℕ) → meets s (set.insert t k) ≡ (set.contains s k || meets s t)
meets-insert s t k =
    elim (cases_Bool (set.contains s k)) [
      | inl has ↦ meets_at s (set.insert t k) k has (grind (members, rules)) ∙ sym (λ i. has i || meets s t)
      | inr lacks ↦ elim (cases_Bool (meets s t)) [
        | inl met ↦ more_right s t k met ∙ sym (λ i. lacks i || met i)
        | inr apart ↦ apart_from s (set.insert t k) (λ p. apart_more s t k p lacks (apart_at s t apart p)) ∙ sym (λ i. lacks i || apart i)
      ]
    ]

meets_swap : (s t : set.FinSet nat_cmp) → meets s t ≡ true → meets t s ≡ true
meets_swap s t = meets_more s t t s (λ p e. let h = and_parts (set.contains s p) (set.contains t p) e in and_from (set.contains t p) (set.contains s p) h.1 h.0)

-- whether two sets meet doesn't depend on which is first
pub meets-sym : (s t : set.FinSet nat_cmp) → meets s t ≡ meets t s
meets-sym s t =
    elim (cases_Bool (meets s t)) [
      | inl met ↦ met ∙ sym (meets_swap s t met)
      | inr apart ↦ apart ∙ sym (false_from_ne_true (meets t s) (λ e. true≢false (sym (meets_swap t s e) ∙ apart)))
    ]

-- a set with one more place meets another exactly if that has the place or they met before
pub meets-insert_left : (s t : set.FinSet nat_cmp) (k : ℕ) → meets (set.insert s k) t ≡ (set.contains t k || meets s t)
meets-insert_left s t k = meets-sym (set.insert s k) t ∙ meets-insert t s k ∙ ap (λ (b : Bool). set.contains t k || b) (meets-sym t s)
