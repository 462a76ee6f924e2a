-- How much of a log is used: of its interrupts those that are due.
use Rattle.std.proofs.Common.{◌≡◌, ◌≢◌, ℕ, zero, suc, ◌+◌, ◌≤◌, inl, inr, Bool, true, false, eqb, cond, List, [], ◌∷◌, ◌++◌, length, Option, Some, None, refl, sym, ap, ◌∙◌, subst, set, arith}
use Rattle.std.specs.Prelude.{slice_get, slice_index_or, nat_le, nat_lt, ◌&&◌, find, option_map}
use Rattle.std.specs.List.{AllAdjacentBelow}
use Rattle.std.proofs.lemmas.Bool.{true≢false, eqb-true, leb-true, leb-false, le-leb, lt-leb, lt-ltb, le-ltb, and_parts, and_left, and_right, and_from, cases_eq, eq-eqb}
use Rattle.std.proofs.lemmas.Option.{none-some}
use Rattle.spec_isa.specs.declared.thread.Parts.{Parts}
use Rattle.spec_log.specs.declared.Interrupt.{Interrupt}
use Rattle.spec_log.specs.Log.{ComesBefore}
use Rattle.spec_play.specs.Verdicts.{interrupt_at}
use Rattle.spec_sphere.specs.promises.Sound.{commits_if, is_due, is_due_in, due}
use Rattle.spec_sphere.proofs.Logs.Inserting.{both_tests}
use Rattle.spec_sphere.proofs.Moves.Threads.{AreNew}
use Rattle.spec_sphere.proofs.Logs.Growing.{commits-other, commits-same}
use Rattle.spec_sphere.proofs.Logs.Lookups.{none-there}
use Rattle.spec_strata.proofs.Shares.Steps.{get-set_other, get-set_same}
use Rattle.spec_play.proofs.Threads.{branch}

-- ---- rising moments

abbrev pub Before : Interrupt → Interrupt → Type 0
Before x y = ComesBefore x.thread x.index y.thread y.index

-- x comes before each of these
abbrev pub Later : Interrupt → List Interrupt → Type 0
Later x [] = Unit {0}
Later x (y ∷ ys) = Before x y × Later x ys

-- the interrupts stand in the order of their threads and commits, none twice
abbrev pub Rising : List Interrupt → Type 0
Rising [] = Unit {0}
Rising (x ∷ xs) = Later x xs × Rising xs

before-before : (x y z : Interrupt) → Before x y → Before y z → Before x z
before-before x y z (inl a) (inl b) = inl (omega (arith, a, b))
before-before x y z (inl a) (inr b) = inl (let e = b.0 in omega (arith, a, e))
before-before x y z (inr a) (inl b) = inl (let e = a.0 in omega (arith, b, e))
before-before x y z (inr a) (inr b) = inr (a.0 ∙ b.0, (let m = a.1 in let n = b.1 in omega (arith, m, n)))

later-later : (x y : Interrupt) (zs : List Interrupt) → Before x y → Later y zs → Later x zs
later-later x y [] b l = tt
later-later x y (z ∷ zs) b l = (before-before x y z b l.0, later-later x y zs b l.1)

behind-first : (x y : Interrupt) (ys : List Interrupt) → AllAdjacentBelow Before (x ∷ y ∷ ys) (length (x ∷ y ∷ ys)) → AllAdjacentBelow Before (y ∷ ys) (length (y ∷ ys))
behind-first x y ys adjacent k d l =
    let e : suc k + 1 ≡ suc (k + 1) = omega arith in
    subst (λ (n : ℕ). Before (slice_index_or (y ∷ ys) k d) (slice_index_or (x ∷ y ∷ ys) n d)) e (adjacent (suc k) d (omega (arith, l)))

-- interrupts each of which is before its neighbour rise
pub rising-of : (xs : List Interrupt) → AllAdjacentBelow Before xs (length xs) → Rising xs
rising-of [] adjacent = tt
rising-of (x ∷ []) adjacent = (tt, tt)
rising-of (x ∷ y ∷ ys) adjacent =
    let rest = rising-of (y ∷ ys) (behind-first x y ys adjacent) in
    let first : Before x y = adjacent 0 x (omega arith) in
    ((first, later-later x y ys first rest.0), rest)

-- the test for an interrupt of thread k after so many commits
abbrev is_at : (thread commits : ℕ) → Interrupt → Bool
is_at k c i = eqb i.thread k && eqb i.index c

-- none of the moment of x comes after it
not-again : (x y : Interrupt) → Before x y → is_at x.thread x.index y ≡ false
not-again x y (inl l) = both_tests y.thread y.index x.thread x.index (λ e f. omega (arith, l, e))
not-again x y (inr p) = both_tests y.thread y.index x.thread x.index (λ e f. let l = p.1 in omega (arith, l, f))

none-behind : (x : Interrupt) (ys : List Interrupt) → Later x ys → find (is_at x.thread x.index) ys ≡ None
none-behind x [] l = refl
none-behind x (y ∷ ys) l =
    ap (λ (b : Bool). cond b (Some y) (find (is_at x.thread x.index) ys)) (not-again x y l.0) ∙ none-behind x ys l.1

-- ---- one commit more

abbrev one_if : Bool → ℕ
one_if b = cond b 1 0

-- only the interrupt of the new moment becomes due
due-step : (i : Interrupt) (c : ℕ) → i.index ≢ suc c → is_due i (suc c) ≡ is_due i c
due-step i c ne =
    branch (λ (b : Bool). (nat_lt 0 i.index && nat_le i.index (suc c)) ≡ (nat_lt 0 i.index && b)) (nat_le i.index c) true false
    (λ e. ap (λ (b : Bool). nat_lt 0 i.index && b) (le-leb i.index (suc c) (let l = leb-true i.index c e in omega (arith, l))))
    (λ e. ap (λ (b : Bool). nat_lt 0 i.index && b) (lt-leb i.index (suc c) (let l = leb-false i.index c e in omega (arith, l, ne))))
    ∙ ap (λ (b : Bool). nat_lt 0 i.index && b) (itself (nat_le i.index c))
  where
    itself : (b : Bool) → cond b true false ≡ b
    itself true = refl
    itself false = refl

due-now : (i : Interrupt) (c : ℕ) → i.index ≡ suc c → is_due i (suc c) ≡ true
due-now i c e = and_from (nat_lt 0 i.index) (nat_le i.index (suc c)) (lt-ltb 0 i.index (omega (arith, e))) (le-leb i.index (suc c) (omega (arith, e)))

due-not_yet : (i : Interrupt) (c : ℕ) → i.index ≡ suc c → is_due i c ≡ false
due-not_yet i c e = and_right (nat_lt 0 i.index) (nat_le i.index c) (lt-leb i.index c (omega (arith, e)))

-- thread k, which was t, has one commit more as u, and new threads have none
pub record OnceMore (ts us : List Parts) (k c : ℕ) : Type 0 where
  pub before : commits_if (slice_get ts k) ≡ c
  pub after : commits_if (slice_get us k) ≡ suc c
  pub others : (j : ℕ) → j ≢ k → commits_if (slice_get us j) ≡ commits_if (slice_get ts j)

-- a commit of thread k makes its number one more, and no other's
pub once-more : (ts spawned : List Parts) (k : ℕ) (t u : Parts) → slice_get ts k ≡ Some t → u.commits ≡ t.commits + 1 → AreNew spawned → OnceMore ts (set ts k u ++ spawned) k t.commits
once-more ts spawned k t u there commits new =
    record {
      before = ap commits_if there;
      after = commits-same ts spawned k t u there ∙ (omega (arith, commits));
      others = λ j ne. commits-other ts spawned k j u new ne;
    }

-- an interrupt of another moment
one-same : (i : Interrupt) (ts us : List Parts) (k c : ℕ) → OnceMore ts us k c → is_at k (suc c) i ≡ false → is_due_in us i ≡ is_due_in ts i
one-same i ts us k c m miss =
    elim (cases_eq i.thread k) [
      | inr ne ↦ ap (is_due i) (m.others i.thread ne)
      | inl e ↦ (
          let ne : i.index ≢ suc c = (λ f. true≢false (sym (and_from (eqb i.thread k) (eqb i.index (suc c)) (eq-eqb i.thread k e) (eq-eqb i.index (suc c) f)) ∙ miss)) in
          ap (is_due i) (ap (λ (j : ℕ). commits_if (slice_get us j)) e ∙ m.after) ∙ due-step i c ne
          ∙ sym (ap (is_due i) (ap (λ (j : ℕ). commits_if (slice_get ts j)) e ∙ m.before))
          )
    ]

first-missed : (i : Interrupt) (is : List Interrupt) (k c : ℕ) → find (is_at k c) (i ∷ is) ≡ None → (is_at k c i ≡ false) × (find (is_at k c) is ≡ None)
first-missed i is k c e =
    elim (is_at k c i) as (λ (b : Bool). cond b (Some i) (find (is_at k c) is) ≡ None → (b ≡ false) × (find (is_at k c) is ≡ None)) [
      | true ↦ λ h. absurd (none-some i (sym h))
      | false ↦ λ h. (refl, h)
    ] e

none-due : (is : List Interrupt) (ts us : List Parts) (k c : ℕ) → OnceMore ts us k c → find (is_at k (suc c)) is ≡ None → due us is ≡ due ts is
none-due [] ts us k c m e = refl
none-due (i ∷ is) ts us k c m e =
    let p = first-missed i is k (suc c) e in
    let a = ap one_if (one-same i ts us k c m p.0) in
    let b = none-due is ts us k c m p.1 in
    omega (arith, a, b)

hit-due : (x : Interrupt) (is : List Interrupt) (ts us : List Parts) (k c : ℕ) → OnceMore ts us k c → Later x is → is_at k (suc c) x ≡ true → due us (x ∷ is) ≡ suc (due ts (x ∷ is))
hit-due x is ts us k c m later hit =
    let p = and_parts (eqb x.thread k) (eqb x.index (suc c)) hit in
    let thread = eqb-true x.thread k p.0 in
    let index = eqb-true x.index (suc c) p.1 in
    let was = ap one_if (ap (is_due x) (ap (λ (j : ℕ). commits_if (slice_get ts j)) thread ∙ m.before) ∙ due-not_yet x c index) in
    let now = ap one_if (ap (is_due x) (ap (λ (j : ℕ). commits_if (slice_get us j)) thread ∙ m.after) ∙ due-now x c index) in
    let none : find (is_at k (suc c)) is ≡ None = sym (λ i. find (is_at (thread i) (index i)) is) ∙ none-behind x is later in
    let rest = none-due is ts us k c m none in
    omega (arith, was, now, rest)

some-due : (is : List Interrupt) (ts us : List Parts) (k c : ℕ) (x : Interrupt) → Rising is → OnceMore ts us k c → find (is_at k (suc c)) is ≡ Some x → due us is ≡ suc (due ts is)
some-due [] ts us k c x rising m e = absurd (none-some x e)
some-due (i ∷ is) ts us k c x rising m e =
    branch (λ (o : Option Interrupt). o ≡ Some x → due us (i ∷ is) ≡ suc (due ts (i ∷ is))) (is_at k (suc c) i) (Some i) (find (is_at k (suc c)) is)
    (λ hit _. hit-due i is ts us k c m rising.0 hit)
    (λ miss h. let a = ap one_if (one-same i ts us k c m miss) in let b = some-due is ts us k c x rising.1 m h in omega (arith, a, b)) e

value-found : (o : Option Interrupt) (value : ℕ) → option_map (λ i. i.value) o ≡ Some value → (i : Interrupt) × (o ≡ Some i)
value-found None value e = absurd (none-some value e)
value-found (Some i) value e = (i, refl)

-- where none is logged of the moment, as many are due as before
pub same-due : (is : List Interrupt) (ts us : List Parts) (k c : ℕ) → OnceMore ts us k c → interrupt_at is k (suc c) ≡ None → due us is ≡ due ts is
same-due is ts us k c m none = none-due is ts us k c m (none-there is k (suc c) none)

-- with one more commit of a thread, at which the log has an interrupt, one more interrupt is due
pub one-due : (is : List Interrupt) (ts us : List Parts) (k c value : ℕ) → Rising is → OnceMore ts us k c → interrupt_at is k (suc c) ≡ Some value → due us is ≡ suc (due ts is)
one-due is ts us k c value rising m e =
    let i = value-found (find (is_at k (suc c)) is) value e in some-due is ts us k c i.0 rising m i.1

-- ---- no commit

-- as many interrupts are due where no thread's number of commits has changed
pub due-still : (is : List Interrupt) (ts us : List Parts) → ((j : ℕ) → commits_if (slice_get us j) ≡ commits_if (slice_get ts j)) → due us is ≡ due ts is
due-still [] ts us same = refl
due-still (i ∷ is) ts us same =
    let a = ap one_if (ap (is_due i) (same i.thread)) in let b = due-still is ts us same in omega (arith, a, b)

-- a piece counts no commit
pub piece-commits : (ts : List Parts) (k : ℕ) (t u : Parts) → slice_get ts k ≡ Some t → u.commits ≡ t.commits → (j : ℕ) → commits_if (slice_get (set ts k u) j) ≡ commits_if (slice_get ts j)
piece-commits ts k t u there same j =
    elim (cases_eq j k) [
      | inl e ↦ (
          ap (λ (i : ℕ). commits_if (slice_get (set ts k u) i)) e ∙ ap commits_if (get-set_same ts k u t there) ∙ same
          ∙ sym (ap commits_if there) ∙ sym (ap (λ (i : ℕ). commits_if (slice_get ts i)) e)
          )
      | inr ne ↦ ap commits_if (get-set_other ts k j u ne)
    ]

-- ---- no more than there are

-- no more interrupts are due than there are
pub due-most : (is : List Interrupt) (ts : List Parts) → due ts is ≤ length is
due-most [] ts = omega arith
due-most (i ∷ is) ts =
    let b = due-most is ts in
    branch (λ (n : ℕ). n + due ts is ≤ suc (length is)) (is_due_in ts i) 1 0 (λ _. omega (arith, b)) (λ _. omega (arith, b))

-- ---- the start

-- thread 0 alone has done nothing
nothing-done : (ts : List Parts) → ((j : ℕ) → commits_if (slice_get ts j) ≡ 0) → (is : List Interrupt) → due ts is ≡ 0
nothing-done ts none [] = refl
nothing-done ts none (i ∷ is) =
    let a = ap one_if (ap (is_due i) (none i.thread) ∙ never i) in let b = nothing-done ts none is in omega (arith, a, b)
  where
    never : (i : Interrupt) → is_due i 0 ≡ false
    never i = elim (cases_eq i.index 0) [
      | inl e ↦ and_left (nat_lt 0 i.index) (nat_le i.index 0) (le-ltb 0 i.index (omega (arith, e)))
      | inr ne ↦ and_right (nat_lt 0 i.index) (nat_le i.index 0) (lt-leb i.index 0 (omega (arith, ne)))
    ]

first-commits : (t : Parts) (j : ℕ) → t.commits ≡ 0 → commits_if (slice_get (t ∷ []) j) ≡ 0
first-commits t zero e = e
first-commits t (suc j) e = refl

-- no interrupt is due before the first commit
pub none-due_first : (t : Parts) (is : List Interrupt) → t.commits ≡ 0 → due (t ∷ []) is ≡ 0
none-due_first t is e = nothing-done (t ∷ []) (λ j. first-commits t j e) is
