-- Entries that are put in their place by thread and index: how they are found again.
use Rattle.std.proofs.Common.{◌≡◌, ℕ, suc, inl, inr, Bool, true, false, ◌&&◌, eqb, cond, List, [], ◌∷◌, length, Some, None, refl, sym, ap, ◌∙◌}
use Rattle.std.specs.Prelude.{find}
use Rattle.std.proofs.lemmas.Bool.{true≢false, cases_eq, eq-eqb, ne_eqb, eqb-true, and_left, and_right, and_parts}
use Rattle.std.proofs.lemmas.Option.{none-some}
use Rattle.dl_entry.specs.declared.Actor.{Actor}
use Rattle.spec_log.specs.declared.ShortSize.{ShortSize}
use Rattle.spec_log.specs.declared.Sizes.{Sizes}
use Rattle.spec_log.specs.Reading.{is_earlier}
use Rattle.spec_log.specs.Noting.{insert_by, insert_size, sizes_at}

-- ---- what is noted of a commit

-- the short sizes with one more, in its place
abbrev pub with_short : (thread index size : ℕ) → List ShortSize → List ShortSize
with_short k i n sizes = insert_size (record { thread = k; index = i; size = n }) sizes

-- the sizes with that of one more commit, as their mode keeps them
abbrev pub with_size : Sizes → Actor → (index size : ℕ) → (short : Bool) → Sizes
with_size sizes actor i n short = sizes_at sizes i (record { actor = actor; size = n; short = short })

-- ---- entries of a moment

-- two pairs of numbers that aren't one fail the test for both
pub both_tests : (a b c d : ℕ) → (a ≡ c → b ≡ d → ⊥) → (eqb a c && eqb b d) ≡ false
both_tests a b c d ne =
    elim (cases_eq a c) [
      | inl e ↦ and_right (eqb a c) (eqb b d) (ne_eqb b d (ne e))
      | inr h ↦ and_left (eqb a c) (eqb b d) (ne_eqb a c h)
    ]

-- a pair of numbers passes the test for being that pair
pub same_tests : (a b : ℕ) → (eqb a a && eqb b b) ≡ true
same_tests a b = (λ i. eq-eqb a a refl i && eq-eqb b b refl i)

-- an entry is of this thread and this index
abbrev pub is_of_moment : {X : Type 0} (thread index : X → ℕ) (k i : ℕ) → X → Bool
is_of_moment thread index k i x = eqb (thread x) k && eqb (index x) i

-- where nothing is found, neither the first passes nor one after it
pub found_first : {X : Type 0} (test : X → Bool) (y : X) (ys : List X) → find test (y ∷ ys) ≡ None → (test y ≡ false) × (find test ys ≡ None)
found_first test y ys e =
    elim (test y) as (λ (b : Bool). cond b (Some y) (find test ys) ≡ None → (b ≡ false) × (find test ys ≡ None)) [
      | true ↦ λ h. absurd (none-some y (sym h))
      | false ↦ λ h. (refl, h)
    ] e

-- ---- one more

-- before y, in its place or after it
abbrev put_at : {X : Type 0} (x y : X) (ys inserted : List X) (earlier same : Bool) → List X
put_at x y ys inserted earlier same = cond earlier (y ∷ inserted) (cond same (x ∷ ys) (x ∷ y ∷ ys))

other_at : {X : Type 0} (test : X → Bool) (x y : X) (ys inserted : List X) (earlier same : Bool) → find test inserted ≡ find test ys → test x ≡ false → (same ≡ true → test y ≡ false)
    → find test (put_at x y ys inserted earlier same) ≡ find test (y ∷ ys)
other_at test x y ys inserted true same ih ex ey = ap (cond (test y) (Some y)) ih
other_at test x y ys inserted false true ih ex ey =
    ap (λ (c : Bool). cond c (Some x) (find test ys)) ex ∙ sym (ap (λ (c : Bool). cond c (Some y) (find test ys)) (ey refl))
other_at test x y ys inserted false false ih ex ey = ap (λ (c : Bool). cond c (Some x) (find test (y ∷ ys))) ex

-- an entry of another moment is found as before
pub find-inserted_other : {X : Type 0} (thread index : X → ℕ) (x : X) (k i : ℕ) (ys : List X) → (thread x ≡ k → index x ≡ i → ⊥) → find (is_of_moment thread index k i) (insert_by thread index x ys) ≡ find (is_of_moment thread index k i) ys
find-inserted_other thread index x k i [] ne = ap (λ (c : Bool). cond c (Some x) None) (both_tests (thread x) (index x) k i ne)
find-inserted_other thread index x k i (y ∷ ys) ne =
    other_at (is_of_moment thread index k i) x y ys (insert_by thread index x ys) (is_earlier (thread y) (index y) (thread x) (index x)) (is_of_moment thread index (thread x) (index x) y)
    (find-inserted_other thread index x k i ys ne) (both_tests (thread x) (index x) k i ne)
    (λ s. both_tests (thread y) (index y) k i (λ a b. let p = and_parts (eqb (thread y) (thread x)) (eqb (index y) (index x)) s in ne (sym (eqb-true (thread y) (thread x) p.0) ∙ a) (sym (eqb-true (index y) (index x) p.1) ∙ b)))

hit_at : {X : Type 0} (test : X → Bool) (x y : X) (ys inserted : List X) (earlier same : Bool) → find test inserted ≡ Some x → test x ≡ true → test y ≡ false → find test (put_at x y ys inserted earlier same) ≡ Some x
hit_at test x y ys inserted true same ih ex ey = ap (λ (c : Bool). cond c (Some y) (find test inserted)) ey ∙ ih
hit_at test x y ys inserted false true ih ex ey = ap (λ (c : Bool). cond c (Some x) (find test ys)) ex
hit_at test x y ys inserted false false ih ex ey = ap (λ (c : Bool). cond c (Some x) (find test (y ∷ ys))) ex

-- the entry itself is found, where none was
pub find-inserted : {X : Type 0} (thread index : X → ℕ) (x : X) (ys : List X) → let test = is_of_moment thread index (thread x) (index x) in find test ys ≡ None → find test (insert_by thread index x ys) ≡ Some x
find-inserted thread index x [] none = ap (λ (c : Bool). cond c (Some x) None) (same_tests (thread x) (index x))
find-inserted thread index x (y ∷ ys) none =
    let test = is_of_moment thread index (thread x) (index x) in
    let p = found_first test y ys none in
    hit_at test x y ys (insert_by thread index x ys) (is_earlier (thread y) (index y) (thread x) (index x)) (test y) (find-inserted thread index x ys p.1) (same_tests (thread x) (index x)) p.0

length_at : {X : Type 0} (x y : X) (ys inserted : List X) (earlier same : Bool) → length inserted ≡ suc (length ys) → same ≡ false → length (put_at x y ys inserted earlier same) ≡ suc (suc (length ys))
length_at x y ys inserted true same ih e = ap suc ih
length_at x y ys inserted false true ih e = absurd (true≢false e)
length_at x y ys inserted false false ih e = refl

-- there is one more then
pub length-inserted : {X : Type 0} (thread index : X → ℕ) (x : X) (ys : List X) → find (is_of_moment thread index (thread x) (index x)) ys ≡ None → length (insert_by thread index x ys) ≡ suc (length ys)
length-inserted thread index x [] none = refl
length-inserted thread index x (y ∷ ys) none =
    let test = is_of_moment thread index (thread x) (index x) in
    let p = found_first test y ys none in
    length_at x y ys (insert_by thread index x ys) (is_earlier (thread y) (index y) (thread x) (index x)) (test y) (length-inserted thread index x ys p.1) p.0
