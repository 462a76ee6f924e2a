-- A commit looks at memory only by its footprint.
use Rattle.std.proofs.Common.{◌≡◌, ℕ, zero, suc, ◌/◌, ◌<◌, inl, inr, Bool, true, false, ◌&&◌, ◌||◌, List, [], ◌∷◌, length, Option, Some, None, refl, sym, ap, ◌∙◌, subst, arith}
use Rattle.std.specs.Prelude.{IsSome, nat_eq}
use Rattle.std.proofs.lemmas.Bool.{true≢false, and_from, or_left, or_right, eq-eqb, cases_lt, cases_Bool}
use Rattle.std.proofs.lemmas.Bool.Decides.{eqb_tells}
use Rattle.spec_isa.specs.declared.thread.Parts.{Parts}
use Rattle.spec_isa.specs.declared.thread.Kind.{Kind}
use Rattle.spec_isa.specs.Words.{Stored, lays, holds, Lacks, is_inside}
use Rattle.spec_isa.specs.Instruction.{InstructionOutcome, Next, Serial, one, serial_of, loads_of}
use Rattle.spec_isa.specs.Runs.{Run, followed, run}
use Rattle.spec_kernel.specs.Needs.{fetched, next_kind}
use Rattle.spec_play.specs.Touching.{Touches, RunTouches, AllLack, Agree, Unseen}
use Rattle.spec_strata.specs.Footprints.{is_loaded, looks_at, looks, footprint, meets, IsAlike, CommitsAreLocal, CommitsCommute}
use Rattle.spec_play.proofs.Local.Laying.{Agree-lays, Agree-unseen, lays-lays}
use Rattle.spec_play.proofs.Local.Running.{serial_local, fetched_local, kind_local, one_serial, run_local, one_next}

-- ---- what is looked at is touched

loaded-is : (o : Option Kind) (p : Option ℕ) (a : ℕ) → o ≡ None → p ≡ Some a → is_loaded o p a ≡ true
loaded-is o p a none some = (λ i. is_loaded (none i) (some i) a) ∙ eq-eqb a a refl

looks-at-touches : (seen : ℕ → Bool) (t : Parts) (m : List ℕ) → ((a : ℕ) → looks_at t m a ≡ true → seen a ≡ true) → Touches seen t m
unfolding looks_at
looks-at-touches seen t m all =
    record {
      fetch = λ e. all (t.pc / 4) (or_left _ _ (and_from _ _ e (eq-eqb (t.pc / 4) (t.pc / 4) refl)));
      load = λ none a some. all a (or_right (is_inside (length m) t.pc && nat_eq (t.pc / 4) a) _ (loaded-is _ _ a none some));
    }

-- what an instruction before the n-th looks at, a run of n does
looks-more : (m : List ℕ) (t : Parts) (n i a : ℕ) → i < n → looks_at (run m t i).thread (lays m (run m t i).words) a ≡ true → looks m t n a ≡ true
looks-more m t zero i a l e = absurd (omega arith)
looks-more m t (suc n) i a l e =
    elim (cases_lt i n) [
      | inl h ↦ or_left _ _ (looks-more m t n i a h e)
      | inr h ↦ (
          let same : i ≡ n = omega arith in
          or_right (looks m t n a) _ (subst (λ (k : ℕ). looks_at (run m t k).thread (lays m (run m t k).words) a ≡ true) same e)
          )
    ]

-- all words that a run fetches or loads are among those that it looks at
pub looks-touches : (m : List ℕ) (t : Parts) (n : ℕ) → RunTouches (looks m t n) m t n
looks-touches m t n i l = looks-at-touches (looks m t n) _ _ (λ a e. looks-more m t n i a l e)

-- ---- on another memory

is-loaded-same : (o : Option Kind) (p q : Option ℕ) (a : ℕ) → (o ≡ None → p ≡ q) → is_loaded o p a ≡ is_loaded o q a
is-loaded-same None p q a e = ap (λ (x : Option ℕ). is_loaded None x a) (e refl)
is-loaded-same (Some kind) p q a e = refl

looks-at-local : (seen : ℕ → Bool) (t : Parts) (m n : List ℕ) (a : ℕ) → Agree seen m n → Touches seen t m → looks_at t n a ≡ looks_at t m a
unfolding looks_at
looks-at-local seen t m n a g touches =
    let s = serial_local seen t m n g touches in
    (λ i. (is_inside (g.size i) t.pc && nat_eq (t.pc / 4) a) || is_loaded (s i) (loads_of t (fetched t n)) a)
    ∙ ap (λ (b : Bool). (is_inside (length m) t.pc && nat_eq (t.pc / 4) a) || b)
    (is-loaded-same (serial_of t (fetched t m) (length m)) (loads_of t (fetched t n)) (loads_of t (fetched t m)) a
    (λ none. ap (loads_of t) (fetched_local seen t m n g touches (s ∙ none))))

-- a run looks at the same words on a memory that agrees on what it fetches and loads
pub looks-local : (seen : ℕ → Bool) (m n : List ℕ) (t : Parts) (k a : ℕ) → Agree seen m n → RunTouches seen m t k → looks n t k a ≡ looks m t k a
looks-local seen m n t zero a g touches = refl
looks-local seen m n t (suc k) a g touches =
    let r = run m t k in
    let same : run n t k ≡ r = run_local seen m n t k g (λ i l. touches i (omega arith)) in
    let one_ : looks_at (run n t k).thread (lays n (run n t k).words) a ≡ looks_at r.thread (lays m r.words) a =
    ap (λ (q : Run). looks_at q.thread (lays n q.words) a) same
    ∙ looks-at-local seen r.thread (lays m r.words) (lays n r.words) a (Agree-lays seen m n r.words g) (touches k (omega arith)) in
    let before : looks n t k a ≡ looks m t k a = looks-local seen m n t k a g (λ i l. touches i (omega arith)) in
    (λ i. before i || one_ i)

-- ---- where it stops

record Stuck (m : List ℕ) (t : Parts) (k : ℕ) (r : Run) : Type 0 where
  serial : IsSome (next_kind r.thread (lays m r.words))
  touched : Touches (looks m t k) r.thread (lays m r.words)

stuck-step : (m : List ℕ) (t : Parts) (k : ℕ) (o : InstructionOutcome) → let r = run m t k in one r.thread (lays m r.words) ≡ o → (r.n < k → Stuck m t k r) → (followed r o).n < suc k → Stuck m t (suc k) (followed r o)
stuck-step m t k (Serial kind) is before l =
    let r = run m t k in
    record {
      serial = subst IsSome (sym (one_serial r.thread (lays m r.words) kind is)) refl;
      touched = looks-at-touches (looks m t (suc k)) r.thread (lays m r.words) (λ a e. or_right (looks m t k a) _ e);
    }
stuck-step m t k (Next u load store) is before l =
    let r = run m t k in
    let s : Stuck m t k r = before (omega arith) in
    absurd (true≢false (sym (subst IsSome (one_next r.thread (lays m r.words) u load store is) s.serial)))

stuck : (m : List ℕ) (t : Parts) (k : ℕ) → (run m t k).n < k → Stuck m t k (run m t k)
stuck m t zero l = absurd (omega arith)
stuck m t (suc k) l = let r = run m t k in stuck-step m t k (one r.thread (lays m r.words)) refl (stuck m t k) l

-- ---- a commit

-- memories that agree on more words agree on fewer
pub Agree-less : (seen fewer : ℕ → Bool) (m n : List ℕ) → ((a : ℕ) → fewer a ≡ true → seen a ≡ true) → Agree seen m n → Agree fewer m n
Agree-less seen fewer m n less g = record { size = g.size; bytes = λ i e. g.bytes i (less (i / 4) e) }

-- a commit does the same on a memory that agrees on the words that it looks at
pub alike : (m n : List ℕ) (t : Parts) (k : ℕ) → Agree (looks m t k) m n → IsAlike m n t k
alike m n t k g =
    let touches = looks-touches m t k in
    let same : run n t k ≡ run m t k = run_local (looks m t k) m n t k g touches in
    record {
      same_run = same;
      same_words = λ i a. looks-local (looks m t k) m n t k a g touches i || holds (same i).words a;
      stops = λ l.
          let r = run m t k in
          let s = stuck m t k l in
          (s.serial, kind_local (looks m t k) r.thread (lays m r.words) (lays n r.words) (Agree-lays (looks m t k) m n r.words g) s.touched);
    }

-- a commit does the same on a memory that agrees on its footprint
pub commits_are_local : CommitsAreLocal
commits_are_local m n t k g = alike m n t k (Agree-less (footprint m t k) (looks m t k) m n (λ a e. or_left _ _ e) g)

-- ---- two commits

-- if 'x or y' is false, so are both x and y
pub or_neither : (x y : Bool) → (x || y) ≡ false → (x ≡ false) × (y ≡ false)
or_neither false y e = (refl, e)
or_neither true y e = absurd (true≢false e)

-- what is not met is unseen
pub meets-unseen : (seen : ℕ → Bool) (ws : List Stored) → meets seen ws ≡ false → Unseen seen ws
meets-unseen seen [] e = tt
meets-unseen seen (w ∷ ws) e =
    let p = or_neither (seen w.number) (meets seen ws) e in (p.0, meets-unseen seen ws p.1)

-- a word that is unseen where its list's words are seen is not in the list
pub Lacks-unheld : (a : ℕ) (ws : List Stored) → holds ws a ≡ false → Lacks a ws
Lacks-unheld a [] e = tt
Lacks-unheld a (w ∷ ws) e =
    elim (eqb_tells w.number a) [
      | inl h ↦ absurd (true≢false (rw h.0 at e))
      | inr h ↦ (h.1, Lacks-unheld a ws (rw h.0 at e))
    ]

-- the words stored by a commit are in its footprint: other stores, of none of its words, are of other words
pub unseen-lack : (seen : ℕ → Bool) (xs ws : List Stored) → ((a : ℕ) → holds ws a ≡ true → seen a ≡ true) → Unseen seen xs → AllLack xs ws
unseen-lack seen [] ws all u = tt
unseen-lack seen (x ∷ xs) ws all u = (
  Lacks-unheld x.number ws
      (elim (cases_Bool (holds ws x.number)) [
        | inl h ↦ absurd (true≢false (sym (all x.number h) ∙ u.0))
        | inr h ↦ h
      ]),
  unseen-lack seen xs ws all u.1,
)

pub Unseen-less : (seen fewer : ℕ → Bool) (ws : List Stored) → ((a : ℕ) → fewer a ≡ true → seen a ≡ true) → Unseen seen ws → Unseen fewer ws
Unseen-less seen fewer [] less u = tt
Unseen-less seen fewer (w ∷ ws) less u = (
  (elim (cases_Bool (fewer w.number)) [
    | inl h ↦ absurd (true≢false (sym (less w.number h) ∙ u.0))
    | inr h ↦ h
  ]),
  Unseen-less seen fewer ws less u.1,
)

-- two commits without conflict do the same in either order, and leave the same memory
pub commits_commute : CommitsCommute
commits_commute m t k u l e =
    let a = run m t k in
    let b = run m u l in
    let p = or_neither (meets (footprint m t k) b.words) (meets (footprint m u l) a.words) e in
    let x = meets-unseen (footprint m t k) b.words p.0 in
    let y = meets-unseen (footprint m u l) a.words p.1 in (
      commits_are_local m (lays m b.words) t k (Agree-unseen (footprint m t k) m b.words x),
      commits_are_local m (lays m a.words) u l (Agree-unseen (footprint m u l) m a.words y),
      lays-lays m a.words b.words (unseen-lack (footprint m u l) a.words b.words (λ n h. or_right (looks m u l n) _ h) y),
    )
