-- How many chunks of each thread are done in a stratum, and how many it has: as lists, and as functions of the thread.
use Rattle.std.proofs.Common.{◌≡◌, ℕ, zero, suc, ◌+◌, ◌<◌, ◌≤◌, inl, inr, cond, Bool, List, [], ◌∷◌, ◌++◌, length, map, Option, Some, None, refl, sym, ap, ◌∙◌, arith}
use Rattle.std.specs.Prelude.{slice_index_or, replicate}
use Rattle.std.specs.List.{sum}
use Rattle.std.proofs.lemmas.Bool.{cases_eq, cases_lt, lt-ltb, le-ltb}
use Rattle.std.proofs.lemmas.List.{get_or-set_same, get_or-set_other}
use Rattle.std.proofs.lemmas.List.Sums.{sum_by-cons, sum_by-set}
use Rattle.spec_strata.specs.Canonical.{rising}
use Rattle.spec_strata.specs.Shares.{bump, bumps, counts_of}
use Rattle.spec_strata.specs.Standing.{least_left, with_one_done, done_up_to}
use Rattle.spec_strata.proofs.Shares.Steps.{same_some, bump_same, bump_other}
use Rattle.spec_strata.proofs.Making.Counting.{bumps-append, bumps-often, bumps-other}

-- the number in a list, and 0 past its end
abbrev pub count_at : List ℕ → (thread : ℕ) → ℕ
count_at ds k = slice_index_or ds k 0

-- ---- in canonical order

rising-below : (c : ℕ → ℕ) (i : ℕ) (counts : List ℕ) (j : ℕ) → j < i → bumps c (rising i counts) j ≡ c j
rising-below c i [] j l = refl
rising-below c i (n ∷ ns) j l =
    bumps-append c (replicate n i) (rising (suc i) ns) j
    ∙ rising-below (bumps c (replicate n i)) (suc i) ns j (omega (arith, l))
    ∙ bumps-other c n i j (λ e. omega (arith, l, e))

rising-from : (c : ℕ → ℕ) (i : ℕ) (counts : List ℕ) (j : ℕ) → bumps c (rising i counts) (i + j) ≡ c (i + j) + count_at counts j
rising-from c i [] j = omega arith
rising-from c i (n ∷ ns) zero =
    let e : i + 0 ≡ i = omega arith in
    bumps-append c (replicate n i) (rising (suc i) ns) (i + 0)
    ∙ rising-below (bumps c (replicate n i)) (suc i) ns (i + 0) (omega arith)
    ∙ ap (bumps c (replicate n i)) e ∙ bumps-often c n i ∙ ap (λ (a : ℕ). c a + n) (sym e)
rising-from c i (n ∷ ns) (suc j) =
    let e : i + suc j ≡ suc i + j = omega arith in
    bumps-append c (replicate n i) (rising (suc i) ns) (i + suc j)
    ∙ ap (bumps (bumps c (replicate n i)) (rising (suc i) ns)) e
    ∙ rising-from (bumps c (replicate n i)) (suc i) ns j
    ∙ (let h = bumps-other c n i (suc i + j) (λ a. omega (arith, a)) in ap (λ (a : ℕ). a + count_at ns j) h)
    ∙ ap (λ (a : ℕ). c a + count_at ns j) (sym e)

-- each thread has as many commits as it is counted with
pub counts-rising : (counts : List ℕ) (j : ℕ) → counts_of (rising 0 counts) j ≡ count_at counts j
counts-rising counts j =
    let e : 0 + j ≡ j = omega arith in
    ap (counts_of (rising 0 counts)) (sym e) ∙ rising-from (λ k. 0) 0 counts j ∙ (let h : 0 + count_at counts j ≡ count_at counts j = omega arith in h)

-- ---- one more

-- with one more chunk of thread k done, k's number is one more and all others are the same
pub done-more : (ds : List ℕ) (k j : ℕ) → k < length ds → count_at (with_one_done k ds) j ≡ bump (count_at ds) k j
done-more ds k j l =
    elim (cases_eq j k) [
      | inl e ↦ ap (count_at (with_one_done k ds)) e ∙ get_or-set_same ds k (suc (count_at ds k)) 0 l ∙ sym (bump_same (count_at ds) k) ∙ ap (bump (count_at ds) k) (sym e)
      | inr ne ↦ get_or-set_other ds k j (suc (count_at ds k)) 0 ne ∙ sym (bump_other (count_at ds) k j ne)
    ]

-- what has some at a place is as long
pub within : (ds : List ℕ) (k : ℕ) → 0 < count_at ds k → k < length ds
within [] k l = absurd (omega (arith, l))
within (d ∷ ds) zero l = omega arith
within (d ∷ ds) (suc k) l = let h = within ds k l in omega (arith, h)

-- with one more chunk of a thread done, the sum of those done is one more
pub sum-more : (ds : List ℕ) (k : ℕ) → k < length ds → sum (with_one_done k ds) ≡ suc (sum ds)
sum-more ds k l = let h = sum_by-set (λ (x : ℕ). x) ds k (suc (count_at ds k)) 0 l in omega (arith, h)

-- the sum of a list is its first number plus the sum of the rest
pub sum-cons : (d : ℕ) (ds : List ℕ) → sum (d ∷ ds) ≡ d + sum ds
sum-cons d ds = sum_by-cons (λ (x : ℕ). x) d ds

-- ---- all of them

-- if no thread has more chunks done than counted, the sum of those done is at most that counted
pub sum-most : (ds cs : List ℕ) → length ds ≡ length cs → ((j : ℕ) → count_at ds j ≤ count_at cs j) → sum ds ≤ sum cs
sum-most [] [] same few = omega arith
sum-most [] (c ∷ cs) same few = absurd (omega (arith, same))
sum-most (d ∷ ds) [] same few = absurd (omega (arith, same))
sum-most (d ∷ ds) (c ∷ cs) same few =
    let a = sum-cons d ds in
    let b = sum-cons c cs in
    let l : d ≤ c = few 0 in
    let h = sum-most ds cs (omega (arith, same)) (λ j. few (suc j)) in
    omega (arith, a, b, l, h)

-- if none has more than it is counted with, and the sums are the same, each has as many
pub all-done : (ds cs : List ℕ) → length ds ≡ length cs → ((j : ℕ) → count_at ds j ≤ count_at cs j) → sum cs ≤ sum ds → (j : ℕ) → count_at ds j ≡ count_at cs j
all-done [] [] same few full j = refl
all-done [] (c ∷ cs) same few full j = absurd (omega (arith, same))
all-done (d ∷ ds) [] same few full j = absurd (omega (arith, same))
all-done (d ∷ ds) (c ∷ cs) same few full zero =
    let a = sum-cons d ds in
    let b = sum-cons c cs in
    let l : d ≤ c = few 0 in
    let h = sum-most ds cs (omega (arith, same)) (λ j. few (suc j)) in
    let e : d ≡ c = omega (arith, a, b, l, h, full) in
    e
all-done (d ∷ ds) (c ∷ cs) same few full (suc j) =
    let a = sum-cons d ds in
    let b = sum-cons c cs in
    let l : d ≤ c = few 0 in
    all-done ds cs (omega (arith, same)) (λ i. few (suc i)) (omega (arith, a, b, l, full)) j

-- ---- the head

abbrev left_if : (thread : ℕ) → (cs ds : List ℕ) → Bool → Option ℕ
left_if k cs ds b = cond b (Some k) (least_left (suc k) cs ds)

-- one that has chunks left
pub record HasLeft (cs ds : List ℕ) (k : ℕ) (o : Option ℕ) (i : ℕ) : Type 0 where
  pub place : ℕ
  pub is : k ≡ i + place
  pub there : o ≡ Some k
  pub left : count_at ds place < count_at cs place

-- while fewer are done than counted, there is one
pub least-there : (i : ℕ) (cs ds : List ℕ) → length ds ≡ length cs → sum ds < sum cs → (k : ℕ) × HasLeft cs ds k (least_left i cs ds) i
least-there i [] [] same less = absurd (omega (arith, less))
least-there i [] (d ∷ ds) same less = absurd (omega (arith, same))
least-there i (c ∷ cs) [] same less = absurd (omega (arith, same))
least-there i (c ∷ cs) (d ∷ ds) same less =
    let a = sum-cons d ds in
    let b = sum-cons c cs in
    elim (cases_lt d c) [
      | inl l ↦ (i, record { place = 0; is = omega arith; there = ap (left_if i cs ds) (lt-ltb d c l); left = l })
      | inr l ↦ (
          let r = least-there (suc i) cs ds (omega (arith, same)) (omega (arith, a, b, l, less)) in
          let is = r.1.is in
          (r.0, record { place = suc r.1.place; is = omega (arith, is); there = ap (left_if i cs ds) (le-ltb d c l) ∙ r.1.there; left = r.1.left })
          )
    ]

no_number : {A : Type 0} (k : ℕ) → None ≡ Some k → A
no_number k e = cc

-- the least one that has some left has some left
pub least-left : (i : ℕ) (cs ds : List ℕ) (k : ℕ) → least_left i cs ds ≡ Some k → HasLeft cs ds k (least_left i cs ds) i
least-left i [] ds k e = no_number k e
least-left i (c ∷ cs) [] k e = no_number k e
least-left i (c ∷ cs) (d ∷ ds) k e =
    elim (cases_lt d c) [
      | inl l ↦ (let h : i ≡ k = same_some i k (sym (ap (left_if i cs ds) (lt-ltb d c l)) ∙ e) in record { place = 0; is = omega (arith, h); there = e; left = l })
      | inr l ↦ (
          let r = least-left (suc i) cs ds k (sym (ap (left_if i cs ds) (le-ltb d c l)) ∙ e) in
          let is = r.is in
          record { place = suc r.place; is = omega (arith, is); there = e; left = r.left }
          )
    ]

-- ---- the start of a stratum

-- the numbers of chunks done at the start of a stratum: 0 for each thread that is counted
abbrev pub none_of : List ℕ → List ℕ
none_of counts = map (λ (count : ℕ). 0) counts

-- at the start of a stratum no thread has chunks done
pub none-done : (counts : List ℕ) (j : ℕ) → count_at (none_of counts) j ≡ 0
none-done [] j = refl
none-done (c ∷ cs) zero = refl
none-done (c ∷ cs) (suc j) = none-done cs j

-- at the start of a stratum the sum of the chunks done is 0
pub sum-none : (counts : List ℕ) → sum (none_of counts) ≡ 0
sum-none [] = refl
sum-none (c ∷ cs) = let a = sum-cons 0 (none_of cs) in let h = sum-none cs in omega (arith, a, h)

-- the first thread in canonical order is the least that has some left
pub record Begins (ks : List ℕ) (o : Option ℕ) : Type 0 where
  pub first : ℕ
  pub rest : List ℕ
  pub order : ks ≡ first ∷ rest
  pub least : o ≡ Some first

-- if a stratum has chunks, its canonical order begins with the least thread that has some left
pub begins : (i : ℕ) (counts : List ℕ) → 0 < sum counts → Begins (rising i counts) (least_left i counts (none_of counts))
begins i [] some = absurd (omega (arith, some))
begins i (zero ∷ cs) some =
    let a = sum-cons 0 cs in
    let r = begins (suc i) cs (omega (arith, a, some)) in
    record { first = r.first; rest = r.rest; order = r.order; least = r.least }
begins i (suc c ∷ cs) some =
    record {
      first = i;
      rest = replicate c i ++ rising (suc i) cs;
      order = refl;
      least = ap (left_if i cs (none_of cs)) (lt-ltb 0 (suc c) (omega arith));
    }

-- ---- up to a thread

-- if no thread has chunks done, none are done by the threads up to any number
pub none-up-to : (k : ℕ) (ds : List ℕ) → ((j : ℕ) → count_at ds j ≡ 0) → done_up_to k ds ≡ 0
none-up-to k [] none = refl
none-up-to zero (d ∷ ds) none = none 0
none-up-to (suc k) (d ∷ ds) none =
    let a : d ≡ 0 = none 0 in
    let h = none-up-to k ds (λ j. none (suc j)) in omega (arith, a, h)

-- if no thread has chunks done, the sum of those done is 0
pub sum-zero : (ds : List ℕ) → ((j : ℕ) → count_at ds j ≡ 0) → sum ds ≡ 0
sum-zero [] none = refl
sum-zero (d ∷ ds) none =
    let a : d ≡ 0 = none 0 in
    let b = sum-cons d ds in
    let h = sum-zero ds (λ j. none (suc j)) in omega (arith, a, b, h)

-- the chunks done by threads up to a number are at most all that are done
pub up-to-most : (k : ℕ) (ds : List ℕ) → done_up_to k ds ≤ sum ds
up-to-most k [] = omega arith
up-to-most zero (d ∷ ds) = let a = sum-cons d ds in omega (arith, a)
up-to-most (suc k) (d ∷ ds) = let a = sum-cons d ds in let h = up-to-most k ds in omega (arith, a, h)
