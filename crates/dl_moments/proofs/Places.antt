-- Among rising marks an index comes after all lower ones, or is missing there.
use Rattle.std.proofs.Common.{◌≡◌, ℕ, zero, suc, ◌+◌, ◌-◌, ◌<◌, ◌≤◌, nat_lt, true, List, [], ◌∷◌, ◌++◌, length, get_or, take, drop, Some, None, inl, inr, refl, ap, sym, subst, ◌∙◌, arith, add-one}
use Rattle.std.proofs.Math.ListN.{set}
use Rattle.std.proofs.lemmas.List.{get_or_default}
use Rattle.std.proofs.lemmas.Bool.{ltb-true, lt-ltb, le-ltb, eq-eqb, ne_eqb, cases_lt, cases_eq}
use Rattle.std.specs.List.Sorted.{IsPartitionedBy}
use Rattle.dl_moments.specs.declared.lane.Mark.{Mark}
use Rattle.dl_moments.specs.Marks.{Rises, with_mark, value_at, Stands, Misses}

rises-far : {V : Type 0} (marks : List (Mark V)) → Rises marks → (i n : ℕ) (d : Mark V) → i + suc n < length marks
    → (get_or marks i d).index < (get_or marks (i + suc n) d).index
rises-far marks r i zero d h = r i d h
rises-far marks r i (suc n) d h =
    let a = rises-far marks r i n d (omega arith) in
    let e : i + suc n + 1 ≡ i + suc (suc n) = omega arith in
    let b = subst (λ (k : ℕ). (get_or marks (i + suc n) d).index < (get_or marks k d).index) e (r (i + suc n) d (omega arith)) in
    omega arith

rises-between : {V : Type 0} (marks : List (Mark V)) → Rises marks → (i j : ℕ) (d : Mark V) → i < j → j < length marks
    → (get_or marks i d).index < (get_or marks j d).index
rises-between marks r i j d h l =
    let e : i + suc (j - i - 1) ≡ j = omega arith in
    subst (λ (k : ℕ). (get_or marks i d).index < (get_or marks k d).index) e (rises-far marks r i (j - i - 1) d (omega arith))

-- among rising marks those of lower indices come before all others
pub partitioned : {V : Type 0} (marks : List (Mark V)) (index : ℕ) → Rises marks → IsPartitionedBy (λ m. nat_lt m.index index) marks
partitioned marks index r i j d le below t =
    elim (cases_lt i j) [
      | inl less ↦ lt-ltb _ _ (omega (arith, rises-between marks r i j d less below, ltb-true _ _ t))
      | inr more ↦ let e : j ≡ i = omega arith in subst (λ (k : ℕ). nat_lt (get_or marks k d).index index ≡ true) e t
    ]

abbrev pub Below : {V : Type 0} → ℕ → List (Mark V) → ℕ → Type 0
Below {V} index marks p = (k : ℕ) (d : Mark V) → k < p → (get_or marks k d).index < index

below-rest : {V : Type 0} (index : ℕ) (m : Mark V) (ms : List (Mark V)) (p : ℕ) → Below index (m ∷ ms) (suc p) → Below index ms p
below-rest index m ms p h k d l = h (suc k) d (omega arith)

-- after lower marks, and before a higher one if any, an index's value is put in as a new mark
pub with_mark-insert : {V : Type 0} (index : ℕ) (value : V) (marks : List (Mark V)) (p : ℕ) → p ≤ length marks → Below index marks p
    → ((d : Mark V) → p < length marks → index < (get_or marks p d).index)
    → with_mark index value marks ≡ take p marks ++ record { index = index; value = value } ∷ drop p marks
with_mark-insert index value [] zero within below above = refl
with_mark-insert index value [] (suc p) within below above = absurd (omega arith)
with_mark-insert index value (m ∷ ms) zero within below above =
    let more : index < m.index = above m (omega arith) in
    rw (le-ltb m.index index (omega arith), ne_eqb m.index index (λ e. omega arith)) refl
with_mark-insert index value (m ∷ ms) (suc p) within below above =
    let less : m.index < index = below 0 m (omega arith) in
    let rest = with_mark-insert index value ms p (omega arith) (below-rest index m ms p below) (λ d l. above d (omega arith)) in
    rw (lt-ltb m.index index less, rest) refl

-- after lower marks, a value put at an index replaces the mark that has the index
pub with_mark-set : {V : Type 0} (index : ℕ) (value : V) (marks : List (Mark V)) (p : ℕ) → p < length marks → Below index marks p
    → ((d : Mark V) → (get_or marks p d).index ≡ index)
    → with_mark index value marks ≡ set marks p (record { index = index; value = value })
with_mark-set index value [] p within below here = absurd (omega arith)
with_mark-set index value (m ∷ ms) zero within below here =
    let same : m.index ≡ index = here m in
    rw (le-ltb m.index index (omega arith), eq-eqb m.index index same) refl
with_mark-set index value (m ∷ ms) (suc p) within below here =
    let less : m.index < index = below 0 m (omega arith) in
    let rest = with_mark-set index value ms p (omega arith) (below-rest index m ms p below) here in
    rw (lt-ltb m.index index less, rest) refl

-- a mark of the index that comes after lower ones gives the value at the index
pub value_at-found : {V : Type 0} (index : ℕ) (marks : List (Mark V)) (p : ℕ) (x : Mark V) → p < length marks → Below index marks p
    → x ≡ get_or marks p x → x.index ≡ index → Some x.value ≡ value_at index marks
value_at-found index [] p x within below is here = absurd (omega arith)
value_at-found index (m ∷ ms) zero x within below is here =
    let same : m.index ≡ index = ap (λ (y : Mark _). y.index) (sym is) ∙ here in
    rw (eq-eqb m.index index same) (ap (λ (y : Mark _). Some y.value) is)
value_at-found index (m ∷ ms) (suc p) x within below is here =
    let less : m.index < index = below 0 m (omega arith) in
    rw (ne_eqb m.index index (λ e. omega arith)) (value_at-found index ms p x (omega arith) (below-rest index m ms p below) is here)

-- no value is found at an index that none of the marks has
pub value_at-none : {V : Type 0} (index : ℕ) (marks : List (Mark V)) → ((k : ℕ) (d : Mark V) → k < length marks → (get_or marks k d).index ≡ index → ⊥)
    → None ≡ value_at index marks
value_at-none index [] h = refl
value_at-none index (m ∷ ms) h =
    rw (ne_eqb m.index index (h 0 m (omega arith))) (value_at-none index ms (λ k d l e. h (suc k) d (omega arith) e))

-- after lower indices, and with a higher one at the place, the index is nowhere
pub value_at-missed : {V : Type 0} (index : ℕ) (marks : List (Mark V)) (p : ℕ) → Rises marks → Below index marks p
    → ((d : Mark V) → p < length marks → index < (get_or marks p d).index) → None ≡ value_at index marks
value_at-missed index marks p r below above =
    value_at-none index marks
    (λ k d l e. elim (cases_lt k p) [
      | inl less ↦ omega (arith, below k d less)
      | inr more ↦ elim (cases_lt p k) [
        | inl past ↦ omega (arith, above d (omega arith), rises-between marks r p k d past l)
        | inr end ↦ let same : k ≡ p = omega arith in
            let up = above d (omega arith) in
            let there : (get_or marks p d).index ≡ index = subst (λ (n : ℕ). (get_or marks n d).index ≡ index) same e in
            omega arith
      ]
    ])

-- rising indices, none below a bound
abbrev Chain : {V : Type 0} → ℕ → List (Mark V) → Type 0
Chain low [] = Unit {0}
Chain low (m ∷ ms) = (low ≤ m.index) × Chain (suc m.index) ms

chain-rises : {V : Type 0} (low : ℕ) (marks : List (Mark V)) → Chain low marks → (k : ℕ) (d : Mark V) → suc k < length marks
    → (get_or marks k d).index < (get_or marks (suc k) d).index
chain-rises low [] c k d h = absurd (omega arith)
chain-rises low (m ∷ []) c k d h = absurd (omega arith)
chain-rises low (m ∷ n ∷ ms) c zero d h = c.1.0
chain-rises low (m ∷ n ∷ ms) c (suc k) d h = chain-rises (suc m.index) (n ∷ ms) c.1 k d (omega arith)

rises-chain : {V : Type 0} (low : ℕ) (m : Mark V) (ms : List (Mark V)) → low ≤ m.index
    → ((k : ℕ) (d : Mark V) → suc k < length (m ∷ ms) → (get_or (m ∷ ms) k d).index < (get_or (m ∷ ms) (suc k) d).index) → Chain low (m ∷ ms)
rises-chain low m [] h r = (h, tt)
rises-chain low m (n ∷ ms) h r = (h, rises-chain (suc m.index) n ms (r 0 m (omega arith)) (λ k d l. r (suc k) d (omega arith)))

chain-with : {V : Type 0} (low index : ℕ) (value : V) (marks : List (Mark V)) → low ≤ index → Chain low marks → Chain low (with_mark index value marks)
chain-with low index value [] h c = (h, tt)
chain-with low index value (m ∷ ms) h c =
    elim (cases_lt m.index index) [
      | inl less ↦ rw (lt-ltb m.index index less) (c.0, chain-with (suc m.index) index value ms (omega arith) c.1)
      | inr more ↦ elim (cases_eq m.index index) [
        | inl same ↦ rw (le-ltb m.index index more, eq-eqb m.index index same)
            (h, subst (λ (n : ℕ). Chain (suc n) ms) same c.1)
        | inr other ↦ let up : index < m.index = omega arith in
            rw (le-ltb m.index index more, ne_eqb m.index index other) (h, (up, c.1))
      ]
    ]

chain-start : {V : Type 0} (marks : List (Mark V)) → Rises marks → Chain 0 marks
chain-start [] r = tt
chain-start {V} (m ∷ ms) r =
    rises-chain 0 m ms (omega arith)
    (λ k d l. subst (λ (n : ℕ). (get_or (m ∷ ms) k d).index < (get_or (m ∷ ms) n d).index) (add-one k) (r k d (omega arith)))

-- marks that rise still rise with a value put at an index
pub Rises-with_mark : {V : Type 0} (index : ℕ) (value : V) (marks : List (Mark V)) → Rises marks → Rises (with_mark index value marks)
Rises-with_mark index value marks r k d h =
    let up = chain-rises 0 (with_mark index value marks) (chain-with 0 index value marks (omega arith) (chain-start marks r)) k d (omega arith) in
    subst (λ (n : ℕ). (get_or (with_mark index value marks) k d).index < (get_or (with_mark index value marks) n d).index) (sym (add-one k)) up

-- a mark of the index that comes after lower ones is the place of the index
pub stands : {V : Type 0} (index : ℕ) (marks : List (Mark V)) (place : ℕ) → place < length marks → Below index marks place
    → ((d : Mark V) → (get_or marks place d).index ≡ index) → Stands index marks place
stands index marks place within below here =
    record {
      within = within;
      put = λ value. with_mark-set index value marks place within below here;
      value = λ d. sym (value_at-found index marks place (get_or marks place d) within below
          (get_or_default marks place d (get_or marks place d) within) (here d));
    }

-- after lower marks and before a higher one the index is missing, and its value is put there
pub misses : {V : Type 0} (index : ℕ) (marks : List (Mark V)) (place : ℕ) → Rises marks → place ≤ length marks → Below index marks place
    → ((d : Mark V) → place < length marks → index < (get_or marks place d).index) → Misses index marks place
misses index marks place rises within below above =
    record {
      within = within;
      put = λ value. with_mark-insert index value marks place within below above;
      value = sym (value_at-missed index marks place rises below above);
    }
