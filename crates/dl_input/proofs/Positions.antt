-- Among rising records a position comes after all lower ones, or is nowhere.
use Rattle.std.proofs.Common.{◌≡◌, ℕ, zero, suc, ◌+◌, ◌-◌, ◌<◌, nat_lt, Bool, true, List, [], ◌∷◌, length, get_or, Some, None, inl, inr, refl, ap, sym, subst, ◌∙◌, arith}
use Rattle.std.proofs.Math.ListN.{set}
use Rattle.std.proofs.lemmas.Option.{none-some}
use Rattle.std.proofs.lemmas.Bool.{ltb-true, lt-ltb, eq-eqb, ne_eqb, cases_lt, cases_eq}
use Rattle.std.specs.List.Sorted.{IsPartitionedBy}
use Rattle.spec_log.specs.declared.records.DmaRecord.{DmaRecord}
use Rattle.dl_input.specs.Dmas.{Rises, bytes_at, taken_at}

rises-far : (dmas : List (DmaRecord)) → Rises dmas → (i n : ℕ) (d : DmaRecord) → i + suc n < length dmas
    → (get_or dmas i d).position < (get_or dmas (i + suc n) d).position
rises-far dmas r i zero d h = r i d h
rises-far dmas r i (suc n) d h =
    let a = rises-far dmas r i n d (omega arith) in
    let e : i + suc n + 1 ≡ i + suc (suc n) = omega arith in
    let b = subst (λ (k : ℕ). (get_or dmas (i + suc n) d).position < (get_or dmas k d).position) e (r (i + suc n) d (omega arith)) in
    omega arith

rises-between : (dmas : List (DmaRecord)) → Rises dmas → (i j : ℕ) (d : DmaRecord) → i < j → j < length dmas
    → (get_or dmas i d).position < (get_or dmas j d).position
rises-between dmas r i j d h l =
    let e : i + suc (j - i - 1) ≡ j = omega arith in
    subst (λ (k : ℕ). (get_or dmas i d).position < (get_or dmas k d).position) e (rises-far dmas r i (j - i - 1) d (omega arith))

-- among rising records those of lower positions come before all others
pub partitioned : (dmas : List (DmaRecord)) (position : ℕ) → Rises dmas → IsPartitionedBy (λ m. nat_lt m.position position) dmas
partitioned dmas position r i j d le below t =
    elim (cases_lt i j) [
      | inl less ↦ lt-ltb _ _ (omega (arith, rises-between dmas r i j d less below, ltb-true _ _ t))
      | inr more ↦ let e : j ≡ i = omega arith in subst (λ (k : ℕ). nat_lt (get_or dmas k d).position position ≡ true) e t
    ]

abbrev pub Below : ℕ → List (DmaRecord) → ℕ → Type 0
Below position dmas p = (k : ℕ) (d : DmaRecord) → k < p → (get_or dmas k d).position < position

below-rest : (position : ℕ) (m : DmaRecord) (ms : List (DmaRecord)) (p : ℕ) → Below position (m ∷ ms) (suc p) → Below position ms p
below-rest position m ms p h k d l = h (suc k) d (omega arith)

-- a record of the position that comes after lower ones gives the position's bytes
pub bytes_at-found : (position : ℕ) (dmas : List (DmaRecord)) (p : ℕ) (x : DmaRecord) → p < length dmas → Below position dmas p
    → x ≡ get_or dmas p x → x.position ≡ position → Some x.bytes ≡ bytes_at position dmas
bytes_at-found position [] p x within below is here = absurd (omega arith)
bytes_at-found position (m ∷ ms) zero x within below is here =
    let same : m.position ≡ position = ap (λ (y : DmaRecord). y.position) (sym is) ∙ here in
    rw (eq-eqb m.position position same) (ap (λ (y : DmaRecord). Some y.bytes) is)
bytes_at-found position (m ∷ ms) (suc p) x within below is here =
    let less : m.position < position = below 0 m (omega arith) in
    rw (ne_eqb m.position position (λ e. omega arith)) (bytes_at-found position ms p x (omega arith) (below-rest position m ms p below) is here)

-- no bytes are found at a position that none of the records has
pub bytes_at-none : (position : ℕ) (dmas : List (DmaRecord)) → ((k : ℕ) (d : DmaRecord) → k < length dmas → (get_or dmas k d).position ≡ position → ⊥)
    → None ≡ bytes_at position dmas
bytes_at-none position [] h = refl
bytes_at-none position (m ∷ ms) h =
    rw (ne_eqb m.position position (h 0 m (omega arith))) (bytes_at-none position ms (λ k d l e. h (suc k) d (omega arith) e))

-- after lower positions, and with a higher one at the place, the position is nowhere
pub bytes_at-missed : (position : ℕ) (dmas : List (DmaRecord)) (p : ℕ) → Rises dmas → Below position dmas p
    → ((d : DmaRecord) → p < length dmas → position < (get_or dmas p d).position) → None ≡ bytes_at position dmas
bytes_at-missed position dmas p r below above =
    bytes_at-none position dmas
    (λ k d l e. elim (cases_lt k p) [
      | inl less ↦ omega (arith, below k d less)
      | inr more ↦ elim (cases_lt p k) [
        | inl past ↦ omega (arith, above d (omega arith), rises-between dmas r p k d past l)
        | inr end ↦ let same : k ≡ p = omega arith in
            let up = above d (omega arith) in
            let there : (get_or dmas p d).position ≡ position = subst (λ (n : ℕ). (get_or dmas n d).position ≡ position) same e in
            omega arith
      ]
    ])

-- taking the position's record marks the place that it is at
pub taken_at-found : (position : ℕ) (dmas : List DmaRecord) (taken : List Bool) (p : ℕ) → length taken ≡ length dmas → p < length dmas → Below position dmas p
    → ((d : DmaRecord) → (get_or dmas p d).position ≡ position) → taken_at position dmas taken ≡ set taken p true
taken_at-found position [] taken p same h below here = absurd (omega arith)
taken_at-found position (m ∷ ms) [] p same h below here = absurd (omega arith)
taken_at-found position (m ∷ ms) (x ∷ xs) zero same h below here = rw (eq-eqb m.position position (here m)) refl
taken_at-found position (m ∷ ms) (x ∷ xs) (suc p) same h below here =
    let less : m.position < position = below 0 m (omega arith) in
    rw (ne_eqb m.position position (λ e. omega arith), taken_at-found position ms xs p (omega arith) (omega arith) (below-rest position m ms p below) here) refl

taken_at-none : (position : ℕ) (dmas : List DmaRecord) (taken : List Bool) → length taken ≡ length dmas → None ≡ bytes_at position dmas → taken_at position dmas taken ≡ taken
taken_at-none position [] taken same h = refl
taken_at-none position (m ∷ ms) [] same h = absurd (omega arith)
taken_at-none position (m ∷ ms) (x ∷ xs) same h =
    elim (cases_eq m.position position) [
      | inl e ↦ absurd (none-some m.bytes (rw (eq-eqb m.position position e) at h))
      | inr e ↦ rw (ne_eqb m.position position e) (ap (λ (ys : List Bool). x ∷ ys) (taken_at-none position ms xs (omega arith) (rw (ne_eqb m.position position e) at h)))
    ]

-- if no record has the position, taking it marks none
pub taken_at-missed : (position : ℕ) (dmas : List DmaRecord) (taken : List Bool) (p : ℕ) → length taken ≡ length dmas → Rises dmas → Below position dmas p
    → ((d : DmaRecord) → p < length dmas → position < (get_or dmas p d).position) → taken_at position dmas taken ≡ taken
taken_at-missed position dmas taken p same rises below above =
    taken_at-none position dmas taken same (bytes_at-missed position dmas p rises below above)
