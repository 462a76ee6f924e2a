-- How many entries of a list pass a test, and how many interrupts are logged for a thread's commit: none or one.
use Rattle.std.proofs.Common.{◌≡◌, ℕ, suc, ◌+◌, ◌≤◌, inl, inr, Bool, true, false, cond, List, [], ◌∷◌, length, get_or, Option, Some, None, refl, ap, ◌∙◌, subst, arith}
use Rattle.std.specs.Prelude.{nat_eq, ◌&&◌, find, filter, option_map}
use Rattle.std.specs.List.{AllAdjacentBelow}
use Rattle.std.proofs.lemmas.Bool.{cases_Bool, and_parts, and_left, and_right, eqb-true, ne_eqb}
use Rattle.spec_log.specs.declared.Interrupt.{Interrupt}
use Rattle.spec_log.specs.Log.{ComesBefore}
use Rattle.spec_play.specs.Verdicts.{interrupt_at}
use Rattle.spec_isa.specs.Encoding.{bit}

-- how many entries of a list pass a test
abbrev pub tally : {X : Type 0} → (X → Bool) → List X → ℕ
tally p [] = 0
tally p (x ∷ xs) = bit (p x) + tally p xs

filter-first : {X : Type 0} (b : Bool) (x : X) (xs : List X) → length (cond b (x ∷ xs) xs) ≡ bit b + length xs
filter-first true x xs = omega arith
filter-first false x xs = omega arith

-- a filter keeps as many entries as pass its test
pub length-filter : {X : Type 0} (p : X → Bool) (xs : List X) → length (filter p xs) ≡ tally p xs
length-filter p [] = refl
length-filter p (x ∷ xs) = filter-first (p x) x (filter p xs) ∙ ap (λ (n : ℕ). bit (p x) + n) (length-filter p xs)

-- each entry of the list
abbrev pub Each : {X : Type 0} → (X → Type 0) → List X → Type 0
Each P [] = Unit {0}
Each P (x ∷ xs) = P x × Each P xs

-- two tests pass together what two others do
pub tally-both : {X : Type 0} (p q r s : X → Bool) (xs : List X) → Each (λ x. bit (p x) + bit (q x) ≡ bit (r x) + bit (s x)) xs → tally p xs + tally q xs ≡ tally r xs + tally s xs
tally-both p q r s [] same = refl
tally-both p q r s (x ∷ xs) same =
    let one = same.0 in
    let rest = tally-both p q r s xs same.1 in
    omega (arith, one, rest)

-- a test that everything passes counts all entries of a list
pub tally-all : {X : Type 0} (xs : List X) → tally (λ x. true) xs ≡ length xs
tally-all [] = refl
tally-all (x ∷ xs) = let h = tally-all xs in omega (arith, h)

-- a test that nothing passes counts no entry of a list
pub tally-none : {X : Type 0} (xs : List X) → tally (λ x. false) xs ≡ 0
tally-none [] = refl
tally-none (x ∷ xs) = let h = tally-none xs in omega (arith, h)

-- two tests that agree on each entry count the same number of entries
pub tally-same : {X : Type 0} (p q : X → Bool) (xs : List X) → Each (λ x. p x ≡ q x) xs → tally p xs ≡ tally q xs
tally-same p q [] same = refl
tally-same p q (x ∷ xs) same =
    let one = ap bit same.0 in
    let rest = tally-same p q xs same.1 in
    omega (arith, one, rest)

bit-most : (b : Bool) → bit b ≤ 1
bit-most true = omega arith
bit-most false = omega arith

-- no more entries pass a test than the list has
pub tally-most : {X : Type 0} (p : X → Bool) (xs : List X) → tally p xs ≤ length xs
tally-most p [] = omega arith
tally-most p (x ∷ xs) = let one = bit-most (p x) in let rest = tally-most p xs in omega (arith, one, rest)

-- if as many pass as there are, each does
pub tally-each : {X : Type 0} (p : X → Bool) (xs : List X) → length xs ≤ tally p xs → Each (λ x. p x ≡ true) xs
tally-each p [] all = tt
tally-each p (x ∷ xs) all =
    let most = tally-most p xs in
    elim (cases_Bool (p x)) [
      | inl yes_ ↦ (let one = ap bit yes_ in (yes_, tally-each p xs (omega (arith, one, all))))
      | inr no_ ↦ (let one = ap bit no_ in absurd (omega (arith, one, all, most)))
    ]

-- if one fact implies another and holds of each entry, the other does too
pub each-map : {X : Type 0} (P Q : X → Type 0) (xs : List X) → ((x : X) → P x → Q x) → Each P xs → Each Q xs
each-map P Q [] f all = tt
each-map P Q (x ∷ xs) f all = (f x all.0, each-map P Q xs f all.1)

-- what holds of everything holds of each entry of a list
pub each-one : {X : Type 0} (P : X → Type 0) (xs : List X) → ((x : X) → P x) → Each P xs
each-one P [] f = tt
each-one P (x ∷ xs) f = (f x, each-one P xs f)

-- ---- the interrupts at one commit

-- 1 if there is a value, 0 if there is none
abbrev pub number : Option ℕ → ℕ
number None = 0
number (Some value) = 1

-- whether an interrupt is logged for this thread after this many of its commits
abbrev pub is_at : (thread index : ℕ) → Interrupt → Bool
is_at k n x = nat_eq x.thread k && nat_eq x.index n

-- x comes before y
abbrev pub Before : Interrupt → Interrupt → Type 0
Before x y = ComesBefore x.thread x.index y.thread y.index

-- each comes before all after it
abbrev pub Rising : List Interrupt → Type 0
Rising [] = Unit {0}
Rising (x ∷ xs) = Each (Before x) xs × Rising xs

before-trans : (x y z : Interrupt) → Before x y → Before y z → Before x z
before-trans x y z a b =
    elim a [
      | inl s ↦ elim b [ inl t ↦ inl (omega (arith, s, t)) | inr t ↦ (let e = t.0 in inl (omega (arith, s, e))) ]
      | inr s ↦ elim b [ inl t ↦ (let e = s.0 in inl (omega (arith, t, e))) | inr t ↦ (let l = s.1 in let m = t.1 in inr (s.0 ∙ t.0, omega (arith, l, m))) ]
    ]

adjacent-rest : (x : Interrupt) (xs : List Interrupt) → AllAdjacentBelow Before (x ∷ xs) (length (x ∷ xs)) → AllAdjacentBelow Before xs (length xs)
adjacent-rest x xs next k d l =
    let h : suc k + 1 ≡ suc (k + 1) = omega arith in
    subst (λ (n : ℕ). Before (get_or xs k d) (get_or (x ∷ xs) n d)) h (next (suc k) d (omega (arith, l)))

before-rest : (x : Interrupt) (xs : List Interrupt) → AllAdjacentBelow Before (x ∷ xs) (length (x ∷ xs)) → Each (Before x) xs
before-rest x [] next = tt
before-rest x (y ∷ ys) next =
    let h : 0 + 1 ≡ 1 = omega arith in
    let one : Before x y = subst (λ (n : ℕ). Before x (get_or (x ∷ y ∷ ys) n x)) h (next 0 x (omega arith)) in
    (one, each-map (Before y) (Before x) ys (λ z b. before-trans x y z one b) (before-rest y ys (adjacent-rest x (y ∷ ys) next)))

-- if each interrupt comes before the next, each comes before all later ones
pub rising-of : (xs : List Interrupt) → AllAdjacentBelow Before xs (length xs) → Rising xs
rising-of [] next = tt
rising-of (x ∷ xs) next = (before-rest x xs next, rising-of xs (adjacent-rest x xs next))

other-at : (k n : ℕ) (x y : Interrupt) → is_at k n x ≡ true → Before x y → is_at k n y ≡ false
other-at k n x y is before =
    let p = and_parts (nat_eq x.thread k) (nat_eq x.index n) is in
    let thread = eqb-true x.thread k p.0 in
    let index = eqb-true x.index n p.1 in
    elim before [
      | inl l ↦ and_left (nat_eq y.thread k) (nat_eq y.index n) (ne_eqb y.thread k (λ e. omega (arith, l, thread, e)))
      | inr m ↦ (let l = m.1 in and_right (nat_eq y.thread k) (nat_eq y.index n) (ne_eqb y.index n (λ e. omega (arith, l, index, e))))
    ]

none-more : (k n : ℕ) (x : Interrupt) (xs : List Interrupt) → is_at k n x ≡ true → Each (Before x) xs → tally (is_at k n) xs ≡ 0
none-more k n x xs is before =
    tally-same (is_at k n) (λ y. false) xs (each-map (Before x) (λ y. is_at k n y ≡ false) xs (λ y b. other-at k n x y is b) before) ∙ tally-none xs

abbrev value_of : Option Interrupt → Option ℕ
value_of o = option_map (λ (x : Interrupt). x.value) o

-- as many as are found
pub tally-at : (k n : ℕ) (xs : List Interrupt) → Rising xs → tally (is_at k n) xs ≡ number (interrupt_at xs k n)
tally-at k n [] rising = refl
tally-at k n (x ∷ xs) rising =
    elim (cases_Bool (is_at k n x)) [
      | inl yes_ ↦ (
          let found : number (interrupt_at (x ∷ xs) k n) ≡ 1 = ap (λ (b : Bool). number (value_of (cond b (Some x) (find (is_at k n) xs)))) yes_ in
          let one = ap bit yes_ in
          let none = none-more k n x xs yes_ rising.0 in
          omega (arith, found, one, none)
          )
      | inr no_ ↦ (
          let found : number (interrupt_at (x ∷ xs) k n) ≡ number (interrupt_at xs k n) = ap (λ (b : Bool). number (value_of (cond b (Some x) (find (is_at k n) xs)))) no_ in
          let one = ap bit no_ in
          let rest = tally-at k n xs rising.1 in
          omega (arith, found, one, rest)
          )
    ]
