-- The threads at a tail's base: the interrupts that are still to come make them the threads of the log's play.
use Rattle.std.proofs.Common.{◌≡◌, ℕ, zero, suc, ◌+◌, ◌-◌, ◌<◌, inl, inr, Bool, true, false, cond, List, [], ◌∷◌, length, Option, Some, None, refl, sym, ap, ◌∙◌, subst, arith}
use Rattle.std.specs.Prelude.{slice_get, nat_lt, nat_le, nat_eq, not, ◌&&◌, ◌||◌, filter, find, map, option_map, if◌then◌else◌}
use Rattle.std.proofs.lemmas.Bool.{false≢true, cases_Bool, cases_lt, cases_eq, lt-ltb, le-ltb, le-leb, leb-true, eq-eqb, eqb-true, ne_eqb, and_parts, and_from, false_from_ne_true}
use Rattle.std.proofs.lemmas.Option.{none-some, same_Some}
use Rattle.spec_isa.specs.declared.thread.Parts.{Parts}
use Rattle.spec_log.specs.declared.Interrupt.{Interrupt}
use Rattle.spec_log.specs.declared.LogParts.{LogParts}
use Rattle.spec_kernel.specs.Interrupts.{is_live, has_handler, takes_interrupt, interrupted}
use Rattle.spec_play.specs.Verdicts.{interrupt_at}
use Rattle.spec_play.specs.Epochs.{is_masked, was_raised}
use Rattle.spec_tail.specs.Cutting.{after_interrupt, after_interrupts}
use Rattle.spec_tail.specs.Playing.{commits_of, begun, uncounted, Raised, led_by, raised_first, raised, counted_from}
use Rattle.spec_tail.proofs.Along.Lookups.{each-filter}
use Rattle.spec_tail.proofs.Along.Reached.{is_reached, AreHandled}
use Rattle.spec_isa.specs.Encoding.{bit}
use Rattle.spec_tail.proofs.Along.Tallies.{tally, Each, tally-both, tally-none, tally-same, tally-all, each-map, each-one, number, is_at, Rising, tally-at, length-filter}

-- ---- their numbers

same-commits : (o : Option ℕ) (p : Parts) → (after_interrupt o p).commits ≡ p.commits
same-commits None p = refl
same-commits (Some value) p = refl

-- interrupts don't change how many commits each thread has done
pub begun-same : (xs : List Interrupt) (k : ℕ) (ps : List Parts) (j : ℕ) → begun (after_interrupts xs k ps) j ≡ begun ps j
begun-same xs k [] j = refl
begun-same xs k (p ∷ ps) zero = same-commits (interrupt_at xs k p.commits) p
begun-same xs k (p ∷ ps) (suc j) = begun-same xs (suc k) ps j

-- among the threads after their interrupts, each is the old one after its own interrupt
pub get-after : (xs : List Interrupt) (k : ℕ) (ps : List Parts) (j : ℕ) (p : Parts) → slice_get ps j ≡ Some p → slice_get (after_interrupts xs k ps) j ≡ Some (after_interrupt (interrupt_at xs (k + j) p.commits) p)
get-after xs k [] j p is = absurd (none-some p is)
get-after xs k (x ∷ ps) zero p is =
    let here : k ≡ k + 0 = omega arith in
    λ i. Some (after_interrupt (interrupt_at xs (here i) (same_Some x p is i).commits) (same_Some x p is i))
get-after xs k (x ∷ ps) (suc j) p is =
    let h : suc k + j ≡ k + suc j = omega arith in
    get-after xs (suc k) ps j p is ∙ ap (λ (i : ℕ). Some (after_interrupt (interrupt_at xs i p.commits) p)) h

-- ---- the interrupts that come

-- how many there are for these threads
abbrev pub coming_to : List Interrupt → (thread : ℕ) → List Parts → ℕ
coming_to xs k [] = 0
coming_to xs k (p ∷ ps) = number (interrupt_at xs k p.commits) + coming_to xs (suc k) ps

abbrev raised_as : List Parts → ℕ → Raised
raised_as qs n = record { threads = map uncounted qs; count = n; refused = false }

raised-one : (o : Option ℕ) (p : Parts) (qs ps : List Parts) (n : ℕ) → ((value : ℕ) → o ≡ Some value → takes_interrupt p ≡ true)
    → raised_first o (uncounted p) ps (raised_as qs n) ≡ raised_as (after_interrupt o p ∷ qs) (number o + n)
raised-one None p qs ps n takes = refl
raised-one (Some value) p qs ps n takes =
    ap (λ (b : Bool). if b then led_by (interrupted value (uncounted p)) 1 (raised_as qs n) else record { threads = uncounted p ∷ ps; count = 0; refused = true }) (takes value refl)

-- each thread takes the interrupt of these that is for it
abbrev pub AreTaken : List Interrupt → (thread : ℕ) → List Parts → Type 0
AreTaken xs k ps = (j value : ℕ) (p : Parts) → slice_get ps j ≡ Some p → interrupt_at xs (k + j) p.commits ≡ Some value → takes_interrupt p ≡ true

-- those that come say so of the threads, and the others say the same, counted from the base
abbrev pub SayTheSame : (xs since : List Interrupt) → (thread : ℕ) → List Parts → Type 0
SayTheSame xs since k ps = (j : ℕ) (p : Parts) → slice_get ps j ≡ Some p → interrupt_at xs (k + j) p.commits ≡ interrupt_at since (k + j) 0

-- if the threads can take the interrupts for them, all of these are applied and none is refused
pub raised-after : (xs since : List Interrupt) (k : ℕ) (ps : List Parts) → AreTaken xs k ps → SayTheSame xs since k ps
    → raised since k (map uncounted ps) ≡ raised_as (after_interrupts xs k ps) (coming_to xs k ps)
raised-after xs since k [] takes same = refl
raised-after xs since k (p ∷ ps) takes same =
    let here : k + 0 ≡ k = omega arith in
    let next : (j : ℕ) → k + suc j ≡ suc k + j = (λ j. omega arith) in
    let o : Option ℕ = interrupt_at xs k p.commits in
    let first : interrupt_at since k 0 ≡ o = sym (subst (λ (i : ℕ). interrupt_at xs i p.commits ≡ interrupt_at since i 0) here (same 0 p refl)) in
    let rest : raised since (suc k) (map uncounted ps) ≡ raised_as (after_interrupts xs (suc k) ps) (coming_to xs (suc k) ps) =
    raised-after xs since (suc k) ps
    (λ j value r is at. takes (suc j) value r is (ap (λ (i : ℕ). interrupt_at xs i r.commits) (next j) ∙ at))
    (λ j r is. subst (λ (i : ℕ). interrupt_at xs i r.commits ≡ interrupt_at since i 0) (next j) (same (suc j) r is)) in
    ap (λ (v : Option ℕ). raised_first v (uncounted p) (map uncounted ps) (raised since (suc k) (map uncounted ps))) first
    ∙ ap (raised_first o (uncounted p) (map uncounted ps)) rest
    ∙ raised-one o p (after_interrupts xs (suc k) ps) (map uncounted ps) (coming_to xs (suc k) ps)
    (λ value is. takes 0 value p refl (ap (λ (i : ℕ). interrupt_at xs i p.commits) here ∙ is))

-- ---- that they are taken

each-left : {X : Type 0} (P : X → Type 0) (keep : X → Bool) (xs : List X) → Each P xs → Each P (filter keep xs)
each-left P keep [] each = tt
each-left P keep (x ∷ xs) each = either (keep x) (each-left P keep xs each.1) where
  either : (b : Bool) → Each P (filter keep xs) → Each P (cond b (x ∷ filter keep xs) (filter keep xs))
  either true rest = (each.0, rest)
  either false rest = rest

found : {X : Type 0} (test : X → Bool) (value : X → ℕ) (P : X → Type 0) (xs : List X) (v : ℕ) → option_map value (find test xs) ≡ Some v → Each P xs → (x : X) × (test x ≡ true) × P x
found test value P [] v is each = absurd (none-some v is)
found test value P (x ∷ xs) v is each =
    elim (cases_Bool (test x)) [
      | inl yes_ ↦ (x, yes_, each.0)
      | inr no_ ↦ found test value P xs v (sym (ap (λ (b : Bool). option_map value (cond b (Some x) (find test xs))) no_) ∙ is) each.1
    ]

found-all : {X : Type 0} (test keep : X → Bool) (value : X → ℕ) (xs : List X) (v : ℕ) → option_map value (find test (filter keep xs)) ≡ Some v → (w : ℕ) × (option_map value (find test xs) ≡ Some w)
found-all test keep value [] v is = absurd (none-some v is)
found-all test keep value (x ∷ xs) v is =
    elim (cases_Bool (test x)) [
      | inl yes_ ↦ (value x, ap (λ (b : Bool). option_map value (cond b (Some x) (find test xs))) yes_)
      | inr no_ ↦ (
          let rest = found-all test keep value xs v (later (keep x) no_ is) in
          (rest.0, ap (λ (b : Bool). option_map value (cond b (Some x) (find test xs))) no_ ∙ rest.1)
          )
    ]
  where
    later : (b : Bool) → test x ≡ false → option_map value (find test (cond b (x ∷ filter keep xs) (filter keep xs))) ≡ Some v → option_map value (find test (filter keep xs)) ≡ Some v
    later true no_ e = sym (ap (λ (c : Bool). option_map value (cond c (Some x) (find test (filter keep xs)))) no_) ∙ e
    later false no_ e = e

-- a thread for which one comes is not masked
unmasked : (n : ℕ) (masked : Bool) → not (nat_lt n n || (nat_eq n n && masked)) ≡ true → masked ≡ false
unmasked n false kept = refl
unmasked n true kept =
    let a : nat_lt n n ≡ false = le-ltb n n (omega arith) in
    let b : nat_eq n n ≡ true = eq-eqb n n refl in
    absurd (false≢true (sym (λ i. not (a i || (b i && true))) ∙ kept))

-- whether an interrupt is still to come for these threads
abbrev pub comes : List Parts → Interrupt → Bool
comes ps x = not (was_raised ps x.thread x.index)

-- whether an interrupt after so many commits is still to come for this thread
abbrev pub comes_to : (index : ℕ) → Option Parts → Bool
comes_to i o = not (nat_lt i (commits_of o) || (nat_eq i (commits_of o) && is_masked o))

-- the play has taken those that come, so its threads are live and have handlers, and so have the tail's
pub all-taken : (log : LogParts) (ps qs : List Parts) → Each (λ x. 0 < x.index) log.interrupts → AreHandled log qs → qs ≡ after_interrupts (filter (comes ps) log.interrupts) 0 ps → AreTaken (filter (comes ps) log.interrupts) 0 ps
all-taken log ps qs after_first handled same j value p there at =
    let xs : List Interrupt = filter (comes ps) log.interrupts in
    let none : 0 + j ≡ j = omega arith in
    let n : ℕ = p.commits in
    let here : interrupt_at xs j n ≡ Some value = ap (λ (i : ℕ). interrupt_at xs i n) (sym none) ∙ at in
    let kept = found (is_at j n) (λ x. x.value) (λ x. comes ps x ≡ true) xs value here (each-filter (comes ps) log.interrupts) in
    let later_ = found (is_at j n) (λ x. x.value) (λ x. 0 < x.index) xs value here (each-left (λ x. 0 < x.index) (comes ps) log.interrupts after_first) in
    let thread : kept.0.thread ≡ j = eqb-true kept.0.thread j (and_parts (nat_eq kept.0.thread j) (nat_eq kept.0.index n) kept.1).0 in
    let index : kept.0.index ≡ n = eqb-true kept.0.index n (and_parts (nat_eq kept.0.thread j) (nat_eq kept.0.index n) kept.1).1 in
    let moment : later_.0.index ≡ n = eqb-true later_.0.index n (and_parts (nat_eq later_.0.thread j) (nat_eq later_.0.index n) later_.1).1 in
    let after = later_.2 in
    let comes_there : comes_to kept.0.index (slice_get ps kept.0.thread) ≡ comes_to n (slice_get ps j) = (λ i. comes_to (index i) (slice_get ps (thread i))) in
    let mask : p.mask ≡ false = unmasked n p.mask (sym (ap (comes_to n) there) ∙ sym comes_there ∙ kept.2) in
    let played : slice_get qs j ≡ Some (interrupted value p) =
    ap (λ (ts : List Parts). slice_get ts j) same ∙ get-after xs 0 ps j p there ∙ ap (λ (o : Option ℕ). Some (after_interrupt o p)) at in
    let logged = found-all (is_at j n) (comes ps) (λ x. x.value) log.interrupts value here in
    let h = handled j logged.0 (interrupted value p) played (omega (arith, moment, after)) logged.1 in
    and_from (is_live p && has_handler p) (not p.mask) (and_from (is_live p) (has_handler p) h.live h.handler) (ap not mask)

-- ---- the threads of the play

-- threads without their commits are the same threads once these are counted in again
pub recounted-all : (b : ℕ → ℕ) (k : ℕ) (qs : List Parts) → ((j : ℕ) → b (k + j) ≡ begun qs j) → counted_from b k (map uncounted qs) ≡ qs
recounted-all b k [] same = refl
recounted-all b k (q ∷ qs) same =
    let here : k + 0 ≡ k = omega arith in
    let one : b k ≡ q.commits = ap b (sym here) ∙ same 0 in
    let n : b k + 0 ≡ q.commits = omega (arith, one) in
    ap (λ (c : ℕ). record q { commits = c } ∷ counted_from b (suc k) (map uncounted qs)) n
    ∙ ap (λ (xs : List Parts). q ∷ xs)
    (recounted-all b (suc k) qs (λ j. let h : suc k + j ≡ k + suc j = omega arith in ap b h ∙ same (suc j)))

-- ---- how many interrupts these are

abbrev is_now : (index : ℕ) → Option Parts → Bool
is_now i None = false
is_now i (Some p) = nat_eq i p.commits

-- an interrupt at a commit that one of these threads has reached, of which the first has number k
abbrev is_among : (thread : ℕ) → List Parts → Interrupt → Bool
is_among k qs x = if nat_lt x.thread k then false else is_now x.index (slice_get qs (x.thread - k))

among-next : (k : ℕ) (q : Parts) (qs : List Parts) (x : Interrupt) → bit (is_among k (q ∷ qs) x) + 0 ≡ bit (is_at k q.commits x) + bit (is_among (suc k) qs x)
among-next k q qs x =
    elim (cases_lt x.thread k) [
      | inl below ↦ (
          let a : nat_lt x.thread k ≡ true = lt-ltb x.thread k below in
          let b : nat_lt x.thread (suc k) ≡ true = lt-ltb x.thread (suc k) (omega (arith, below)) in
          let c : nat_eq x.thread k ≡ false = ne_eqb x.thread k (λ e. omega (arith, e, below)) in
          rw (a, b, c) refl
          )
      | inr from ↦ (
          let a : nat_lt x.thread k ≡ false = le-ltb x.thread k from in
          elim (cases_eq x.thread k) [
            | inl e ↦ (
                let b : nat_lt x.thread (suc k) ≡ true = lt-ltb x.thread (suc k) (omega (arith, e)) in
                let c : nat_eq x.thread k ≡ true = eq-eqb x.thread k e in
                let n : x.thread - k ≡ 0 = omega (arith, e) in
                rw (a, b, c, n) refl
                )
            | inr ne ↦ (
                let above : k < x.thread = omega (arith, from, ne) in
                let b : nat_lt x.thread (suc k) ≡ false = le-ltb x.thread (suc k) (omega (arith, above)) in
                let c : nat_eq x.thread k ≡ false = ne_eqb x.thread k ne in
                let n : x.thread - k ≡ suc (x.thread - suc k) = omega (arith, above) in
                rw (a, b, c, n) (let m = bit (is_now x.index (slice_get qs (x.thread - suc k))) in omega arith)
                )
          ]
          )
    ]

coming-among : (xs : List Interrupt) → Rising xs → (k : ℕ) (qs : List Parts) → coming_to xs k qs ≡ tally (is_among k qs) xs
coming-among xs rising k [] = sym (tally-same (is_among k []) (λ x. false) xs (each-one _ xs (λ x. never (nat_lt x.thread k))) ∙ tally-none xs)
  where
    never : (b : Bool) → (if b then false else false) ≡ false
    never true = refl
    never false = refl
coming-among xs rising k (q ∷ qs) =
    let rest = coming-among xs rising (suc k) qs in
    let one = tally-at k q.commits xs rising in
    let none = tally-none xs in
    let both = tally-both (is_among k (q ∷ qs)) (λ x. false) (is_at k q.commits) (is_among (suc k) qs) xs (each-one _ xs (among-next k q qs)) in
    omega (arith, rest, one, none, both)

tally-filter : {X : Type 0} (keep p : X → Bool) (xs : List X) → tally p (filter keep xs) ≡ tally (λ x. keep x && p x) xs
tally-filter keep p [] = refl
tally-filter keep p (x ∷ xs) =
    let rest = tally-filter keep p xs in
    elim (cases_Bool (keep x)) [
      | inl is ↦ subst (λ (b : Bool). tally p (cond b (x ∷ filter keep xs) (filter keep xs)) ≡ bit (b && p x) + tally (λ y. keep y && p y) xs) (sym is)
          (ap (λ (n : ℕ). bit (p x) + n) rest)
      | inr isnt ↦ subst (λ (b : Bool). tally p (cond b (x ∷ filter keep xs) (filter keep xs)) ≡ bit (b && p x) + tally (λ y. keep y && p y) xs) (sym isnt)
          (omega (arith, rest))
    ]

rising-filter : (keep : Interrupt → Bool) (xs : List Interrupt) → Rising xs → Rising (filter keep xs)
rising-filter keep [] rising = tt
rising-filter keep (x ∷ xs) rising = either (keep x) (rising-filter keep xs rising.1) where
  either : (b : Bool) → Rising (filter keep xs) → Rising (cond b (x ∷ filter keep xs) (filter keep xs))
  either true rest = (each-left _ keep xs rising.0, rest)
  either false rest = rest

-- an interrupt after a thread's first commit is reached or to come, or both if it was raised between just these two commits
abbrev comes_by : (masked : Bool) → (before index : ℕ) → Bool
comes_by masked n i = not (nat_lt i n || (nat_eq i n && masked))

unlike : (a b : ℕ) → b < a → nat_le a b ≡ false
unlike a b less = false_from_ne_true (nat_le a b) (λ h. let l = leb-true a b h in omega (arith, l, less))

once-below : (masked : Bool) (n i : ℕ) → 0 < i → i < n → bit (nat_lt 0 i && nat_le i n) + bit (comes_by masked n i) ≡ 1 + bit (comes_by masked n i && nat_eq i n)
once-below masked n i some_ below =
    let a : nat_le i n ≡ true = le-leb i n (omega (arith, below)) in
    let b : nat_lt 0 i ≡ true = lt-ltb 0 i some_ in
    let c : nat_lt i n ≡ true = lt-ltb i n below in
    rw (a, b, c) refl

once-above : (masked : Bool) (n i : ℕ) → 0 < i → n < i → bit (nat_lt 0 i && nat_le i n) + bit (comes_by masked n i) ≡ 1 + bit (comes_by masked n i && nat_eq i n)
once-above masked n i some_ above =
    let a : nat_le i n ≡ false = unlike i n above in
    let b : nat_lt 0 i ≡ true = lt-ltb 0 i some_ in
    let c : nat_lt i n ≡ false = le-ltb i n (omega (arith, above)) in
    let d : nat_eq i n ≡ false = ne_eqb i n (λ e. omega (arith, e, above)) in
    rw (a, b, c, d) refl

once-there : (masked : Bool) (n i : ℕ) → 0 < i → i ≡ n → bit (nat_lt 0 i && nat_le i n) + bit (comes_by masked n i) ≡ 1 + bit (comes_by masked n i && nat_eq i n)
once-there masked n i some_ e =
    let a : nat_le i n ≡ true = le-leb i n (omega (arith, e)) in
    let b : nat_lt 0 i ≡ true = lt-ltb 0 i some_ in
    let c : nat_lt i n ≡ false = le-ltb i n (omega (arith, e)) in
    let d : nat_eq i n ≡ true = eq-eqb i n e in
    rw (a, b, c, d) (either masked)
  where
    either : (m : Bool) → 1 + bit (not m) ≡ 1 + bit (not m && true)
    either true = refl
    either false = refl

once-of : (masked : Bool) (n i : ℕ) → 0 < i → bit (nat_lt 0 i && nat_le i n) + bit (comes_by masked n i) ≡ 1 + bit (comes_by masked n i && nat_eq i n)
once-of masked n i some_ =
    elim (cases_lt i n) [
      | inl below ↦ once-below masked n i some_ below
      | inr from ↦ elim (cases_eq i n) [
        | inl e ↦ once-there masked n i some_ e
        | inr ne ↦ once-above masked n i some_ (omega (arith, from, ne))
      ]
    ]

either-once : (i : ℕ) (o : Option Parts) → 0 < i → bit (nat_lt 0 i && nat_le i (commits_of o)) + bit (comes_by (is_masked o) (commits_of o) i) ≡ 1 + bit (comes_by (is_masked o) (commits_of o) i && is_now i o)
either-once i None some_ =
    let a : nat_le i 0 ≡ false = unlike i 0 some_ in
    let b : nat_lt 0 i ≡ true = lt-ltb 0 i some_ in
    let c : nat_lt i 0 ≡ false = le-ltb i 0 (omega arith) in
    let d : nat_eq i 0 ≡ false = ne_eqb i 0 (λ e. omega (arith, e, some_)) in
    rw (a, b, c, d) refl
either-once i (Some p) some_ = once-of p.mask p.commits i some_

-- those that are reached and those that come are all, with those twice that come at the base
pub all-interrupts : (xs : List Interrupt) (qs ps : List Parts) → Rising xs → Each (λ x. 0 < x.index) xs → ((k : ℕ) → begun ps k ≡ begun qs k)
    → let coming = filter (λ x. not (was_raised ps x.thread x.index)) xs in
    tally (is_reached qs) xs + length coming ≡ length xs + coming_to coming 0 ps
all-interrupts xs qs ps rising after_first same =
    let keep : Interrupt → Bool = (λ x. not (was_raised ps x.thread x.index)) in
    let coming = coming-among (filter keep xs) (rising-filter keep xs rising) 0 ps in
    let among = tally-filter keep (is_among 0 ps) xs in
    let kept = length-filter keep xs in
    let all = tally-all xs in
    let both = tally-both (is_reached qs) keep (λ x. true) (λ x. keep x && is_among 0 ps x) xs
    (each-map (λ x. 0 < x.index) _ xs (λ x some_. once x some_) after_first) in
    omega (arith, coming, among, kept, all, both)
  where
    once : (x : Interrupt) → 0 < x.index → bit (is_reached qs x) + bit (not (was_raised ps x.thread x.index)) ≡ bit true + bit (not (was_raised ps x.thread x.index) && is_among 0 ps x)
    once x some_ =
        let none : nat_lt x.thread 0 ≡ false = le-ltb x.thread 0 (omega arith) in
        let n : x.thread - 0 ≡ x.thread = omega arith in
        let b : begun qs x.thread ≡ begun ps x.thread = sym (same x.thread) in
        rw (none, n, b) (either-once x.index (slice_get ps x.thread) some_)
