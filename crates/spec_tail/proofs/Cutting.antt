-- How a tail is seen to be the last part of a log: an interrupt of the log is to come at the base only if its thread isn't
-- masked there.
use Rattle.std.proofs.Common.{◌≡◌, ℕ, suc, ◌+◌, Bool, true, false, not, cond, List, [], ◌∷◌, length, Option, Some, None, refl, sym, ap, ◌∙◌, arith}
use Rattle.std.specs.Prelude.{slice_get, nat_lt, nat_eq, ◌&&◌, ◌||◌, filter, find, option_map, if◌then◌else◌}
use Rattle.std.proofs.lemmas.Bool.{true≢false, false≢true, and_parts, eqb-true, eq-eqb, le-ltb, false_from_ne_true}
use Rattle.std.proofs.lemmas.Option.{same_Some}
use Rattle.spec_isa.specs.declared.thread.Parts.{Parts}
use Rattle.spec_log.specs.declared.Interrupt.{Interrupt}
use Rattle.spec_play.specs.Verdicts.{interrupt_at}
use Rattle.spec_tail.specs.Cutting.{after_interrupt, after_interrupts}
use Rattle.spec_tail.proofs.Along.Lookups.{value-kept, each-filter}
use Rattle.spec_tail.proofs.Along.Raised.{comes, comes_to}
use Rattle.spec_tail.proofs.Along.Tallies.{Each, each-map, is_at}

-- the interrupt that is to come to a thread at the base
abbrev pub to_come : List Interrupt → (thread : ℕ) → Parts → Option ℕ
to_come xs k p = if p.mask then None else interrupt_at xs k p.commits

none-found : (k n : ℕ) (xs : List Interrupt) → Each (λ x. is_at k n x ≡ false) xs → interrupt_at xs k n ≡ None
none-found k n [] none = refl
none-found k n (x ∷ xs) none =
    ap (λ (b : Bool). option_map (λ (y : Interrupt). y.value) (cond b (Some x) (find (is_at k n) xs))) none.0 ∙ none-found k n xs none.1

comes-open : (n : ℕ) → not (nat_lt n n || (nat_eq n n && false)) ≡ true
comes-open n =
    let a : nat_lt n n ≡ false = le-ltb n n (omega arith) in
    let b : nat_eq n n ≡ true = eq-eqb n n refl in
    λ i. not (a i || (b i && false))

comes-masked : (n : ℕ) → not (nat_lt n n || (nat_eq n n && true)) ≡ false
comes-masked n =
    let a : nat_lt n n ≡ false = le-ltb n n (omega arith) in
    let b : nat_eq n n ≡ true = eq-eqb n n refl in
    λ i. not (a i || (b i && true))

-- at the thread's number of commits whether one comes depends on its mask
comes-here : (ps : List Parts) (k : ℕ) (p : Parts) (x : Interrupt) → slice_get ps k ≡ Some p → is_at k p.commits x ≡ true → comes ps x ≡ comes_to p.commits (Some p)
comes-here ps k p x there at =
    let q = and_parts (nat_eq x.thread k) (nat_eq x.index p.commits) at in
    let thread = eqb-true x.thread k q.0 in
    let index = eqb-true x.index p.commits q.1 in
    (λ i. comes_to (index i) (slice_get ps (thread i))) ∙ ap (comes_to p.commits) there

by-mask : (b : Bool) (xs : List Interrupt) (ps : List Parts) (k : ℕ) (p : Parts) → slice_get ps k ≡ Some p → p.mask ≡ b
    → interrupt_at (filter (comes ps) xs) k p.commits ≡ (if b then None else interrupt_at xs k p.commits)
by-mask true xs ps k p there mask =
    none-found k p.commits (filter (comes ps) xs)
    (each-map (λ x. comes ps x ≡ true) (λ x. is_at k p.commits x ≡ false) (filter (comes ps) xs)
    (λ x kept. false_from_ne_true (is_at k p.commits x) (λ at.
    let n = p.commits in
    false≢true
    (sym (comes-here ps k p x there at ∙ ap (λ (m : Bool). not (nat_lt n n || (nat_eq n n && m))) mask ∙ comes-masked n) ∙ kept)))
    (each-filter (comes ps) xs))
by-mask false xs ps k p there mask =
    sym
    (value-kept (λ (x : Interrupt). x.thread) (λ x. x.index) (λ x. x.value) (comes ps) k p.commits xs
    (λ x gone. false_from_ne_true (is_at k p.commits x) (λ at.
    let n = p.commits in
    true≢false
    (sym (comes-here ps k p x there at ∙ ap (λ (m : Bool). not (nat_lt n n || (nat_eq n n && m))) mask ∙ comes-open n) ∙ gone))))

-- those of the rest of a log are these
pub rest-comes : (xs : List Interrupt) (ps : List Parts) (k : ℕ) (p : Parts) → slice_get ps k ≡ Some p → interrupt_at (filter (comes ps) xs) k p.commits ≡ to_come xs k p
rest-comes xs ps k p there = by-mask p.mask xs ps k p there refl

-- the threads of the log's play, from those of the tail and the interrupts that come
pub after-each : (xs : List Interrupt) (k : ℕ) (ps qs : List Parts) → length qs ≡ length ps
    → ((j : ℕ) (p : Parts) → slice_get ps j ≡ Some p → slice_get qs j ≡ Some (after_interrupt (interrupt_at xs (k + j) p.commits) p))
    → qs ≡ after_interrupts xs k ps
after-each xs k [] [] size each = refl
after-each xs k [] (q ∷ qs) size each = absurd (omega (arith, size))
after-each xs k (p ∷ ps) [] size each = absurd (omega (arith, size))
after-each xs k (p ∷ ps) (q ∷ qs) size each =
    let here : k + 0 ≡ k = omega arith in
    let first : q ≡ after_interrupt (interrupt_at xs k p.commits) p =
    same_Some q (after_interrupt (interrupt_at xs k p.commits) p) (each 0 p refl ∙ ap (λ (i : ℕ). Some (after_interrupt (interrupt_at xs i p.commits) p)) here) in
    let rest : qs ≡ after_interrupts xs (suc k) ps =
    after-each xs (suc k) ps qs (omega (arith, size))
    (λ j r is. let h : k + suc j ≡ suc k + j = omega arith in each (suc j) r is ∙ ap (λ (i : ℕ). Some (after_interrupt (interrupt_at xs i r.commits) r)) h) in
    λ i. first i ∷ rest i

-- the threads of the log's play, from those of the tail and the log's interrupts
pub threads-after : (xs : List Interrupt) (ps qs : List Parts) → length qs ≡ length ps
    → ((k : ℕ) (p : Parts) → slice_get ps k ≡ Some p → slice_get qs k ≡ Some (after_interrupt (to_come xs k p) p))
    → qs ≡ after_interrupts (filter (comes ps) xs) 0 ps
threads-after xs ps qs size each =
    after-each (filter (comes ps) xs) 0 ps qs size
    (λ j p is. let none : 0 + j ≡ j = omega arith in
    each j p is ∙ ap (λ (o : Option ℕ). Some (after_interrupt o p)) (sym (rest-comes xs ps j p is)) ∙ ap (λ (i : ℕ). Some (after_interrupt (interrupt_at (filter (comes ps) xs) i p.commits) p)) (sym none))
