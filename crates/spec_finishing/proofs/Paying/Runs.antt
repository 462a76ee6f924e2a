-- Runs: how many instructions there are, a run that goes on after another one, and a run before a serial instruction.
use Rattle.std.proofs.Common.{◌≡◌, ℕ, zero, suc, ◌+◌, ◌≤◌, inl, inr, Option, Some, None, refl, sym, ap, ◌∙◌, subst, arith, List}
use Rattle.std.proofs.lemmas.Bool.{cases_lt}
use Rattle.spec_isa.specs.declared.thread.Parts.{Parts}
use Rattle.spec_isa.specs.declared.thread.Kind.{Kind}
use Rattle.spec_isa.specs.Words.{Stored, lays, lay, Apart}
use Rattle.spec_isa.specs.Instruction.{InstructionOutcome, Next, Serial, one}
use Rattle.spec_isa.specs.Runs.{Run, run_start, with_store, followed, more, run}
use Rattle.spec_isa.proofs.BufferLaws.{lays_put}
use Rattle.spec_kernel.specs.Needs.{next_kind, fetched}
use Rattle.spec_play.proofs.Local.Running.{one-outcome, serial_outcome}
use Rattle.spec_play.proofs.Local.Joining.{apart_followed}

-- ---- how many

followed_most : (r : Run) (o : InstructionOutcome) → (followed r o).n ≤ suc r.n
followed_most r (Serial kind) = omega arith
followed_most r (Next t load store) = omega arith

followed_more : (r : Run) (o : InstructionOutcome) → r.n ≤ (followed r o).n
followed_more r (Serial kind) = omega arith
followed_more r (Next t load store) = omega arith

-- a run has no more instructions than it may
pub run-most : (m : List ℕ) (t : Parts) (n : ℕ) → (run m t n).n ≤ n
run-most m t zero = omega arith
run-most m t (suc n) =
    let r = run m t n in
    let a = followed_most r (one r.thread (lays m r.words)) in let b = run-most m t n in omega (arith, a, b)

-- a longer run has no fewer
pub run-longer : (m : List ℕ) (t : Parts) (a b : ℕ) → a ≤ b → (run m t a).n ≤ (run m t b).n
run-longer m t a zero l = let e : a ≡ 0 = omega arith in let h = ap (λ (n : ℕ). (run m t n).n) e in omega (arith, h)
run-longer m t a (suc b) l =
    let r = run m t b in
    elim (cases_lt a (suc b)) [
      | inl k ↦ (let x = run-longer m t a b (omega arith) in let y = followed_more r (one r.thread (lays m r.words)) in omega (arith, x, y))
      | inr k ↦ (let e : a ≡ suc b = omega arith in let h = ap (λ (n : ℕ). (run m t n).n) e in omega (arith, h))
    ]

-- ---- one run after another

run_apart : (m : List ℕ) (t : Parts) (n : ℕ) → Apart (run m t n).words
run_apart m t zero = tt
run_apart m t (suc n) = let r = run m t n in apart_followed r (one r.thread (lays m r.words)) (run_apart m t n)

-- two runs that are at the same thread and the same memory, the first after a instructions more
record Same (m l : List ℕ) (a : ℕ) (r q : Run) : Type 0 where
  thread : r.thread ≡ q.thread
  memory : lays m r.words ≡ lays l q.words
  n : r.n ≡ a + q.n

same_stores : (m l : List ℕ) (r q : Run) (store : Option Stored) → Apart r.words → Apart q.words → lays m r.words ≡ lays l q.words → lays m (with_store r.words store) ≡ lays l (with_store q.words store)
same_stores m l r q None ra qa e = e
same_stores m l r q (Some s) ra qa e =
    lays_put m r.words s ra ∙ ap (λ (n : List ℕ). lay n s) e ∙ sym (lays_put l q.words s qa)

same_followed : (m l : List ℕ) (a : ℕ) (r q : Run) (o : InstructionOutcome) → Apart r.words → Apart q.words → Same m l a r q → Same m l a (followed r o) (followed q o)
same_followed m l a r q (Serial kind) ra qa s = s
same_followed m l a r q (Next t load store) ra qa s =
    record { thread = refl; memory = same_stores m l r q store ra qa s.memory; n = (let e = s.n in omega (arith, e)) }

same_more : (m l : List ℕ) (a : ℕ) (r q : Run) → Apart r.words → Apart q.words → Same m l a r q → Same m l a (more m r) (more l q)
same_more m l a r q ra qa s =
    let e : one r.thread (lays m r.words) ≡ one q.thread (lays l q.words) = (λ i. one (s.thread i) (s.memory i)) in
    subst (λ (o : InstructionOutcome). Same m l a (followed r (one r.thread (lays m r.words))) (followed q o)) e
    (same_followed m l a r q (one r.thread (lays m r.words)) ra qa s)

run_joins : (m : List ℕ) (t : Parts) (a b c : ℕ) → (run m t a).n ≡ a → a + b ≡ c → let r = run m t a in Same m (lays m r.words) a (run m t c) (run (lays m r.words) r.thread b)
run_joins m t a zero c ran e =
    let h : a ≡ c = omega arith in
    subst (λ (d : ℕ). let r = run m t a in Same m (lays m r.words) a (run m t d) (run_start r.thread)) h
    (record { thread = refl; memory = refl; n = (let z = ran in omega (arith, z)) })
run_joins m t a (suc b) c ran e =
    let r = run m t a in
    let h : suc (a + b) ≡ c = omega arith in
    subst (λ (d : ℕ). Same m (lays m r.words) a (run m t d) (run (lays m r.words) r.thread (suc b))) h
    (same_more m (lays m r.words) a (run m t (a + b)) (run (lays m r.words) r.thread b) (run_apart m t (a + b)) (run_apart (lays m r.words) r.thread b)
    (run_joins m t a b (a + b) ran refl))

-- n instructions after a ones make a longer run
pub run-joined : (m : List ℕ) (t : Parts) (a b : ℕ) → (run m t a).n ≡ a → let r = run m t a in (run (lays m r.words) r.thread b).n ≡ b → (run m t (a + b)).n ≡ a + b
run-joined m t a b ran then_ = let h = (run_joins m t a b (a + b) ran refl).n in omega (arith, h, then_)

-- ---- before a serial instruction

one_is_serial : (t : Parts) (m : List ℕ) (kind : Kind) → next_kind t m ≡ Some kind → one t m ≡ Serial kind
unfolding next_kind
one_is_serial t m kind e = one-outcome t m ∙ serial_outcome t (fetched t m) _ _ kind e

-- a run before a serial instruction has none
pub run-serial : (m : List ℕ) (t : Parts) (kind : Kind) (n : ℕ) → next_kind t m ≡ Some kind → run m t n ≡ run_start t
run-serial m t kind zero e = refl
run-serial m t kind (suc n) e =
    ap (more m) (run-serial m t kind n e) ∙ ap (followed (run_start t)) (one_is_serial t m kind e)
