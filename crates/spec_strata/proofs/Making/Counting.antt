-- How many commits each thread has in canonical order: as many as it is counted with.
use Rattle.std.proofs.Common.{◌≡◌, ◌≢◌, ℕ, zero, suc, ◌+◌, ◌<◌, ◌≤◌, inl, inr, true, List, [], ◌∷◌, ◌++◌, map, Some, refl, sym, ap, ◌∙◌, arith}
use Rattle.std.specs.Prelude.{replicate, slice_get}
use Rattle.std.specs.List.{range_with_len}
use Rattle.std.proofs.lemmas.Bool.{cases_eq, cases_lt}
use Rattle.spec_isa.specs.declared.thread.Parts.{Parts}
use Rattle.spec_kernel.specs.Interrupts.{is_live}
use Rattle.spec_play.specs.Plays.{Played}
use Rattle.spec_strata.specs.Canonical.{rising}
use Rattle.spec_strata.specs.Shares.{bump, bumps, counts_of}
use Rattle.spec_strata.specs.Orders.{AreLive}
use Rattle.spec_strata.proofs.Shares.Steps.{bump_same, bump_other, bumps_more}
use Rattle.spec_strata.proofs.Making.Cutting.{AllBelow}

-- ---- numbers of commits

-- commits of two lists in a row are counted by counting the first list and then the second
pub bumps-append : (c : ℕ → ℕ) (ks js : List ℕ) (j : ℕ) → bumps c (ks ++ js) j ≡ bumps (bumps c ks) js j
bumps-append c [] js j = refl
bumps-append c (k ∷ ks) js j = bumps-append (bump c k) ks js j

bump-at : (c d : ℕ → ℕ) (k j : ℕ) → c j ≡ d j → bump c k j ≡ bump d k j
bump-at c d k j e =
    elim (cases_eq j k) [
      | inl h ↦ (let a = bump_same c k in let b = bump_same d k in
          let x : bump c k j ≡ bump c k k = ap (bump c k) h in
          let y : bump d k j ≡ bump d k k = ap (bump d k) h in
          let p : c j ≡ c k = ap c h in let q : d j ≡ d k = ap d h in omega (arith, a, b, x, y, p, q, e))
      | inr ne ↦ bump_other c k j ne ∙ e ∙ sym (bump_other d k j ne)
    ]

-- a thread's number depends on that thread's alone
pub bumps-at : (c d : ℕ → ℕ) (ks : List ℕ) (j : ℕ) → c j ≡ d j → bumps c ks j ≡ bumps d ks j
bumps-at c d [] j e = e
bumps-at c d (k ∷ ks) j e = bumps-at (bump c k) (bump d k) ks j (bump-at c d k j e)

-- n commits of thread k add n to its number
pub bumps-often : (c : ℕ → ℕ) (n k : ℕ) → bumps c (replicate n k) k ≡ c k + n
bumps-often c zero k = omega arith
bumps-often c (suc n) k = let h = bumps-often (bump c k) n k in let s = bump_same c k in omega (arith, h, s)

-- any number of commits of thread k leaves another thread's number as it was
pub bumps-other : (c : ℕ → ℕ) (n k j : ℕ) → j ≢ k → bumps c (replicate n k) j ≡ c j
bumps-other c zero k j ne = refl
bumps-other c (suc n) k j ne = bumps-other (bump c k) n k j ne ∙ bump_other c k j ne

-- ---- in canonical order

-- threads i to i + n - 1 have the numbers f
abbrev row : (ℕ → ℕ) → (i n : ℕ) → List ℕ
row f i n = rising i (map f (range_with_len i n))

row-next : (f : ℕ → ℕ) (i n : ℕ) → row f i (suc n) ≡ replicate (f i) i ++ row f (suc i) n
row-next f i n =
    let e : i + 1 ≡ suc i = omega arith in
    ap (λ (k : ℕ). replicate (f i) i ++ rising (suc i) (map f (range_with_len k n))) e

row-step : (c f : ℕ → ℕ) (i n j : ℕ) → bumps c (row f i (suc n)) j ≡ bumps (bumps c (replicate (f i) i)) (row f (suc i) n) j
row-step c f i n j =
    ap (λ (ks : List ℕ). bumps c ks j) (row-next f i n) ∙ bumps-append c (replicate (f i) i) (row f (suc i) n) j

row-below : (c f : ℕ → ℕ) (i n j : ℕ) → j < i → bumps c (row f i n) j ≡ c j
row-below c f i zero j l = refl
row-below c f i (suc n) j l =
    row-step c f i n j ∙ row-below (bumps c (replicate (f i) i)) f (suc i) n j (omega (arith, l))
    ∙ bumps-other c (f i) i j (λ e. omega (arith, l, e))

row-past : (c f : ℕ → ℕ) (i n j : ℕ) → i + n ≤ j → bumps c (row f i n) j ≡ c j
row-past c f i zero j l = refl
row-past c f i (suc n) j l =
    row-step c f i n j ∙ row-past (bumps c (replicate (f i) i)) f (suc i) n j (omega (arith, l))
    ∙ bumps-other c (f i) i j (λ e. omega (arith, l, e))

row-in : (c f : ℕ → ℕ) (i n j : ℕ) → i ≤ j → j < i + n → bumps c (row f i n) j ≡ c j + f j
row-in c f i zero j low high = absurd (omega (arith, low, high))
row-in c f i (suc n) j low high =
    row-step c f i n j
    ∙ (elim (cases_eq j i) [
      | inl e ↦ row-below (bumps c (replicate (f i) i)) f (suc i) n j (omega (arith, e))
          ∙ ap (bumps c (replicate (f i) i)) e ∙ bumps-often c (f i) i
          ∙ (let a : c i ≡ c j = ap c (sym e) in let b : f i ≡ f j = ap f (sym e) in omega (arith, a, b))
      | inr ne ↦ row-in (bumps c (replicate (f i) i)) f (suc i) n j (omega (arith, low, ne)) (omega (arith, high))
          ∙ (let h = bumps-other c (f i) i j ne in omega (arith, h))
    ])

-- a thread that isn't among some has none
pub none-above : (counted : ℕ) (ks : List ℕ) (j : ℕ) → AllBelow counted ks → counted ≤ j → counts_of ks j ≡ 0
none-above counted [] j all l = refl
none-above counted (k ∷ ks) j all l =
    let below = all.0 in
    bumps-at (bump (λ (i : ℕ). 0) k) (λ (i : ℕ). 0) ks j (bump_other (λ (i : ℕ). 0) k j (λ e. omega (arith, e, below, l)))
    ∙ none-above counted ks j all.1 l

-- commits put in canonical order are as many of each thread as they were before
pub counts-same : (counted : ℕ) (ks : List ℕ) (j : ℕ) → AllBelow counted ks → counts_of (rising 0 (map (counts_of ks) (range_with_len 0 counted))) j ≡ counts_of ks j
counts-same counted ks j all =
    elim (cases_lt j counted) [
      | inl l ↦ (let h = row-in (λ (i : ℕ). 0) (counts_of ks) 0 counted j (omega arith) (omega (arith, l)) in omega (arith, h))
      | inr l ↦ row-past (λ (i : ℕ). 0) (counts_of ks) 0 counted j (omega (arith, l)) ∙ sym (none-above counted ks j all l)
    ]

-- ---- live threads

-- a thread with at least one of these commits is live, if all of their threads are
pub live-of : (y : Played) (ks : List ℕ) (j : ℕ) → AreLive y ks → 0 < counts_of ks j → (t : Parts) → slice_get y.threads j ≡ Some t → is_live t ≡ true
live-of y [] j live l t is = absurd (omega (arith, l))
live-of y (k ∷ ks) j live l t is =
    elim (cases_eq j k) [
      | inl e ↦ live.0 t (ap (slice_get y.threads) (sym e) ∙ is)
      | inr ne ↦ (let h = bumps-at (bump (λ (i : ℕ). 0) k) (λ (i : ℕ). 0) ks j (bump_other (λ (i : ℕ). 0) k j ne) in live-of y ks j live.1 (omega (arith, l, h)) t is)
    ]

more-of : (c d : ℕ → ℕ) (ks : List ℕ) (j : ℕ) → c j ≤ d j → bumps c ks j ≤ bumps d ks j
more-of c d [] j l = l
more-of c d (k ∷ ks) j l =
    more-of (bump c k) (bump d k) ks j
    (elim (cases_eq j k) [
      | inl e ↦ (let a = bump_same c k in let b = bump_same d k in
          let x : bump c k j ≡ bump c k k = ap (bump c k) e in
          let y : bump d k j ≡ bump d k k = ap (bump d k) e in
          let p : c j ≡ c k = ap c e in let q : d j ≡ d k = ap d e in omega (arith, a, b, x, y, p, q, l))
      | inr ne ↦ (let a = bump_other c k j ne in let b = bump_other d k j ne in omega (arith, a, b, l))
    ])

live-each : (y : Played) (js : List ℕ) → ((j : ℕ) → 0 < counts_of js j → (t : Parts) → slice_get y.threads j ≡ Some t → is_live t ≡ true) → AreLive y js
live-each y [] each = tt
live-each y (k ∷ js) each = (
  (let a = bumps_more (bump (λ (i : ℕ). 0) k) js k in let b = bump_same (λ (i : ℕ). 0) k in each k (omega (arith, a, b))),
  live-each y js (λ j l. each j (let h = more-of (λ (i : ℕ). 0) (bump (λ (i : ℕ). 0) k) js j (omega arith) in omega (arith, h, l))),
)

-- threads that have as many commits are as live
pub live-too : (y z : Played) (ks js : List ℕ) → z.threads ≡ y.threads → ((j : ℕ) → counts_of js j ≡ counts_of ks j) → AreLive y ks → AreLive z js
live-too y z ks js same counts live =
    live-each z js (λ j l t is. live-of y ks j live (let h = counts j in omega (arith, h, l)) t (ap (λ (ts : List Parts). slice_get ts j) (sym same) ∙ is))
