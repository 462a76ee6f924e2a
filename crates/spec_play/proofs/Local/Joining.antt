-- A run in two parts, the second on the memory that the first one leaves, is one run.
use Rattle.std.proofs.Common.{◌≡◌, ℕ, zero, suc, ◌+◌, List, [], ◌∷◌, ◌++◌, Option, Some, None, refl, sym, ap, ◌∙◌, arith}
use Rattle.std.proofs.lemmas.List.{append_assoc, append-nil}
use Rattle.spec_isa.specs.declared.thread.Parts.{Parts}
use Rattle.spec_isa.specs.declared.thread.Load.{Load}
use Rattle.spec_isa.specs.Words.{Stored, lay, lays, Apart}
use Rattle.spec_isa.specs.Instruction.{InstructionOutcome, Next, Serial, one}
use Rattle.spec_isa.specs.Runs.{Run, with_load, with_store, followed, more, run}
use Rattle.spec_isa.proofs.BufferLaws.{lays_put, Apart-put}

-- ---- stores and loads

pub Apart-store : (ws : List Stored) (store : Option Stored) → Apart ws → Apart (with_store ws store)
Apart-store ws None a = a
Apart-store ws (Some s) a = Apart-put ws s a

-- a run in which no word comes twice has none twice after its next instruction
pub apart_followed : (r : Run) (o : InstructionOutcome) → Apart r.words → Apart (followed r o).words
apart_followed r (Serial kind) a = a
apart_followed r (Next u load store) a = Apart-store r.words store a

-- a run stores no word twice
pub run-apart : (m : List ℕ) (t : Parts) (n : ℕ) → Apart (run m t n).words
run-apart m t zero = tt
run-apart m t (suc n) = apart_followed (run m t n) (one (run m t n).thread (lays m (run m t n).words)) (run-apart m t n)

-- the memory after one store more
abbrev lay_if : List ℕ → Option Stored → List ℕ
lay_if m None = m
lay_if m (Some s) = lay m s

lays_with : (m : List ℕ) (ws : List Stored) (store : Option Stored) → Apart ws → lays m (with_store ws store) ≡ lay_if (lays m ws) store
lays_with m ws None a = refl
lays_with m ws (Some s) a = lays_put m ws s a

with_more : (ls ks : List Load) (load : Option Load) → with_load (ls ++ ks) load ≡ ls ++ with_load ks load
with_more ls ks None = refl
with_more ls ks (Some l) = append_assoc ls ks (l ∷ [])

-- ---- parts

-- r is a run on memory m, s one that goes on from it, and whole is both
pub record IsJoined (m : List ℕ) (r s whole : Run) : Type 0 where
  pub thread : whole.thread ≡ s.thread
  pub memory : lays m whole.words ≡ lays (lays m r.words) s.words
  pub loads : whole.loads ≡ r.loads ++ s.loads
  pub n : whole.n ≡ r.n + s.n

-- the run that goes on from r
abbrev pub rest_of : List ℕ → Run → (n : ℕ) → Run
rest_of m r n = run (lays m r.words) r.thread n

joined_more : (m : List ℕ) (r s whole : Run) (o : InstructionOutcome) → Apart s.words → Apart whole.words → IsJoined m r s whole → IsJoined m r (followed s o) (followed whole o)
joined_more m r s whole (Serial kind) a b j = j
joined_more m r s whole (Next u load store) a b j =
    record {
      thread = refl;
      memory = lays_with m whole.words store b ∙ ap (λ (x : List ℕ). lay_if x store) j.memory ∙ sym (lays_with (lays m r.words) s.words store a);
      loads = ap (λ (ls : List Load). with_load ls load) j.loads ∙ with_more r.loads s.loads load;
      n = (let h = j.n in omega arith);
    }

joined_next : (m : List ℕ) (r s whole : Run) → Apart s.words → Apart whole.words → IsJoined m r s whole → IsJoined m r (more (lays m r.words) s) (more m whole)
joined_next m r s whole a b j =
    let same : one whole.thread (lays m whole.words) ≡ one s.thread (lays (lays m r.words) s.words) = (λ i. one (j.thread i) (j.memory i)) in
    rw same (joined_more m r s whole (one s.thread (lays (lays m r.words) s.words)) a b j)

-- a run of a and then of n instructions is one of a + n
pub run-joined : (m : List ℕ) (t : Parts) (a n : ℕ) → IsJoined m (run m t a) (rest_of m (run m t a) n) (run m t (a + n))
run-joined m t a zero =
    let e : a + 0 ≡ a = omega arith in
    rw e (record { thread = refl; memory = refl; loads = sym (append-nil (run m t a).loads); n = omega arith })
run-joined m t a (suc n) =
    let e : a + suc n ≡ suc (a + n) = omega arith in
    rw e (joined_next m (run m t a) (rest_of m (run m t a) n) (run m t (a + n)) (run-apart _ _ n) (run-apart m t (a + n)) (run-joined m t a n))
