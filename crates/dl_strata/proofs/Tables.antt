-- The table of touches, and footprints as lists of words.
use Rattle.std.proofs.Common.{◌≡◌, ℕ, zero, suc, ◌+◌, ◌<◌, ◌≤◌, inl, inr, Bool, true, false, ◌||◌, List, [], ◌∷◌, ◌++◌, length, map, take, get_or, refl, sym, ap, ◌∙◌, subst, arith}
use Rattle.std.specs.Prelude.{slice_set, nat_eq, replicate, IsTrue, if◌then◌else◌}
use Rattle.std.proofs.lemmas.Bool.{cases_eq, eq-eqb, ne_eqb, eqb-true, true≢false, or_left, or_right, or_cases}
use Rattle.std.proofs.lemmas.List.{take_more}
use Rattle.std.proofs.lemmas.List.Elements.{All-head, All-tail}
use Rattle.spec_strata.specs.declared.touch.Touch.{Touch}
use Rattle.spec_strata.specs.declared.touch.Touch.TheVariants.{Untouched, SeenBy, Shared, StoredBy}
use Rattle.spec_strata.specs.Touches.{looked_at}
use Rattle.dl_serial.specs.Looks.{has}
use Rattle.dl_strata.specs.declared.touches.Mark.{Mark}
use Rattle.dl_strata.specs.Marks.{fresh, AreOld}
use Rattle.dl_strata.specs.Tables.{touch_of, touched_by}

-- ---- marks

-- in the next stratum none counts
pub all-untouched : (n : ℕ) (marks : List Mark) → AreOld n marks → map (fresh (n + 1)) marks ≡ map (λ (t : Touch). Untouched) (map (fresh n) marks)
all-untouched n [] old = refl
all-untouched n (mark ∷ marks) old =
    let l : mark.stratum ≤ n = All-head (λ (m : Mark). m.stratum ≤ n) mark marks old in
    let ne : nat_eq mark.stratum (n + 1) ≡ false = ne_eqb mark.stratum (n + 1) (λ e. omega (arith, l, e)) in
    (λ i. (ap (λ (b : Bool). if b then mark.touch else Untouched) ne) i ∷ all-untouched n marks (All-tail (λ (m : Mark). m.stratum ≤ n) mark marks old) i)

-- in a table of new marks no word is touched
pub none-marked : (n : ℕ) → map (fresh 0) (replicate n (let m : Mark = record { stratum = 0; touch = Untouched } in m)) ≡ replicate n Untouched
none-marked zero = refl
none-marked (suc n) = ap (λ (ts : List Touch). Untouched ∷ ts) (none-marked n)

-- a mark put at word k in the present stratum makes its touch that of the word
pub mark-set : (n : ℕ) (marks : List Mark) (k : ℕ) (touch : Touch) → map (fresh n) (slice_set marks k (let m : Mark = record { stratum = n; touch = touch } in m)) ≡ slice_set (map (fresh n) marks) k touch
mark-set n [] k touch = refl
mark-set n (mark ∷ marks) zero touch = ap (λ (b : Bool). (if b then touch else Untouched) ∷ map (fresh n) marks) (eq-eqb n n refl)
mark-set n (mark ∷ marks) (suc k) touch = ap (λ (ts : List Touch). fresh n mark ∷ ts) (mark-set n marks k touch)

-- ---- a word of the table

-- a touch put at a word of the table is that word's, and others keep theirs
pub touch-set : (touches : List Touch) (n a : ℕ) (touch : Touch) → n < length touches → touch_of (slice_set touches n touch) a ≡ (if nat_eq n a then touch else touch_of touches a)
touch-set [] n a touch l = absurd (omega arith)
touch-set (t ∷ ts) zero zero touch l = refl
touch-set (t ∷ ts) zero (suc a) touch l = ap (λ (b : Bool). if b then touch else touch_of ts a) (sym (ne_eqb 0 (suc a) (λ e. omega (arith, e))))
touch-set (t ∷ ts) (suc n) zero touch l = ap (λ (b : Bool). if b then touch else t) (sym (ne_eqb (suc n) 0 (λ e. omega (arith, e))))
touch-set (t ∷ ts) (suc n) (suc a) touch l =
    touch-set ts n a touch (omega arith) ∙ ap (λ (b : Bool). if b then touch else touch_of ts a) (same-suc n a)
  where
    same-suc : (n a : ℕ) → nat_eq n a ≡ nat_eq (suc n) (suc a)
    same-suc n a = elim (cases_eq n a) [
      | inl e ↦ eq-eqb n a e ∙ sym (eq-eqb (suc n) (suc a) (ap suc e))
      | inr ne ↦ ne_eqb n a ne ∙ sym (ne_eqb (suc n) (suc a) (λ e. ne (omega (arith, e))))
    ]

-- ---- numbers in a list

-- a list with a number put at its end has that number, and those that it had
pub has-push : (xs : List ℕ) (x a : ℕ) → has (xs ++ x ∷ []) a ≡ (has xs a || nat_eq x a)
has-push [] x a = or-false (nat_eq x a)
  where
    or-false : (b : Bool) → (b || false) ≡ b
    or-false true = refl
    or-false false = refl
has-push (y ∷ ys) x a = ap (λ (b : Bool). nat_eq y a || b) (has-push ys x a) ∙ assoc (nat_eq y a) (has ys a) (nat_eq x a)
  where
    assoc : (a b c : Bool) → (a || (b || c)) ≡ ((a || b) || c)
    assoc true b c = refl
    assoc false b c = refl

-- the first i + 1 numbers of a list are the first i, and the next one
pub has-more : (xs : List ℕ) (i a : ℕ) → i < length xs → has (take (i + 1) xs) a ≡ (has (take i xs) a || nat_eq (get_or xs i 0) a)
has-more xs i a l = ap (λ (ys : List ℕ). has ys a) (take_more xs i 0 l) ∙ has-push (take i xs) (get_or xs i 0) a

-- a list has the number at each of its places
pub has-item : (xs : List ℕ) (i : ℕ) → i < length xs → has xs (get_or xs i 0) ≡ true
has-item [] i l = absurd (omega arith)
has-item (x ∷ xs) zero l = or_left (nat_eq x x) (has xs x) (eq-eqb x x refl)
has-item (x ∷ xs) (suc i) l = or_right (nat_eq x (get_or xs i 0)) (has xs (get_or xs i 0)) (has-item xs i (omega arith))

-- what is so of each item is so of each number that is there
pub each-has : (P : ℕ → Type 0) (xs : List ℕ) → ((i : ℕ) → i < length xs → P (get_or xs i 0)) → (a : ℕ) → has xs a ≡ true → P a
each-has P [] each a h = absurd (true≢false (sym h))
each-has P (x ∷ xs) each a h =
    elim (or_cases (nat_eq x a) (has xs a) h) [
      | inl e ↦ subst P (eqb-true x a e) (each 0 (omega arith))
      | inr r ↦ each-has P xs (λ i l. each (suc i) (omega arith)) a r
    ]

-- ---- what is noted

looked-twice : (t : Touch) (k : ℕ) → looked_at (looked_at t k) k ≡ looked_at t k
looked-twice Untouched k = ap (λ (b : Bool). if b then SeenBy k else Shared) (eq-eqb k k refl)
looked-twice (SeenBy j) k = by-bool (nat_eq j k)
  where
    by-bool : (b : Bool) → looked_at (if b then SeenBy k else Shared) k ≡ (if b then SeenBy k else Shared)
    by-bool true = ap (λ (b : Bool). if b then SeenBy k else Shared) (eq-eqb k k refl)
    by-bool false = refl
looked-twice Shared k = refl
looked-twice (StoredBy j) k = refl

look-more : (t : Touch) (k : ℕ) (looked : Bool) → looked_at (touched_by t k looked false) k ≡ touched_by t k (looked || true) false
look-more t k true = looked-twice t k
look-more t k false = refl

-- a word is looked at
pub look-noted : (old : Touch) (now : List Touch) (k n a : ℕ) (looked : Bool) → n < length now → touch_of now a ≡ touched_by old k looked false
    → touch_of (slice_set now n (looked_at (touch_of now n) k)) a ≡ touched_by old k (looked || nat_eq n a) false
look-noted old now k n a looked l is =
    touch-set now n a (looked_at (touch_of now n) k) l ∙ elim (cases_eq n a) [
      | inl e ↦ (
          let same : nat_eq n a ≡ true = eq-eqb n a e in
          ap (λ (b : Bool). if b then looked_at (touch_of now n) k else touch_of now a) same
          ∙ ap (λ (m : ℕ). looked_at (touch_of now m) k) e
          ∙ ap (λ (t : Touch). looked_at t k) is
          ∙ look-more old k looked
          ∙ ap (λ (b : Bool). touched_by old k (looked || b) false) (sym same)
          )
      | inr ne ↦ (
          let other : nat_eq n a ≡ false = ne_eqb n a ne in
          ap (λ (b : Bool). if b then looked_at (touch_of now n) k else touch_of now a) other ∙ is
          ∙ ap (λ (b : Bool). touched_by old k b false) (sym (or-false looked) ∙ ap (λ (b : Bool). looked || b) (sym other))
          )
    ]
  where
    or-false : (b : Bool) → (b || false) ≡ b
    or-false true = refl
    or-false false = refl

-- a word is stored to
pub store-noted : (old : Touch) (now : List Touch) (k n a : ℕ) (looked stored : Bool) → n < length now → touch_of now a ≡ touched_by old k looked stored
    → touch_of (slice_set now n (StoredBy k)) a ≡ touched_by old k looked (stored || nat_eq n a)
store-noted old now k n a looked stored l is =
    touch-set now n a (StoredBy k) l ∙ ap (λ (t : Touch). if nat_eq n a then StoredBy k else t) is ∙ by-bool stored (nat_eq n a)
  where
    by-bool : (s b : Bool) → (if b then StoredBy k else touched_by old k looked s) ≡ touched_by old k looked (s || b)
    by-bool true true = refl
    by-bool true false = refl
    by-bool false true = refl
    by-bool false false = refl

-- ---- what is barred

-- false is the right answer to what can't be so
pub not-free : (P : Type 0) → (P → ⊥) → (IsTrue false → P) × (P → IsTrue false)
not-free P never = ((λ e. absurd (true≢false (sym e))), (λ p. absurd (never p)))

-- true is the right answer to what is so
pub all-free : (P : Type 0) → P → (IsTrue true → P) × (P → IsTrue true)
all-free P p = ((λ e. p), (λ q. refl))

-- a number that is there is barred
pub barred : (bars : ℕ → Bool) (xs : List ℕ) (i : ℕ) → i < length xs → bars (get_or xs i 0) ≡ true → ((a : ℕ) → has xs a ≡ true → bars a ≡ false) → ⊥
barred bars xs i l is free = true≢false (sym is ∙ free (get_or xs i 0) (has-item xs i l))
