-- A replay that goes on, by a log or in strata: its thread as it is now, and what the next commit of a thread can run.
use Rattle.std.proofs.Common.{◌≡◌, ℕ, ◌≤◌, ◌⊎◌, inl, inr, true, List, Some, sym, ap, ◌∙◌, subst}
use Rattle.std.specs.Prelude.{slice_get}
use Rattle.spec_isa.specs.declared.thread.Parts.{Parts}
use Rattle.spec_isa.specs.Runs.{run}
use Rattle.spec_kernel.specs.Interrupts.{lives, is_live}
use Rattle.spec_play.specs.Turns.{Turn, TurnOfDma}
use Rattle.spec_sphere.specs.sphere.Spheres.{Cursor, Replay, Sphere, limit_of}
use Rattle.spec_sphere.specs.sphere.Setups.{SphereSetup}
use Rattle.spec_strata.proofs.Shares.Steps.{get-set_same}
use Rattle.spec_sphere.proofs.Moves.Joining.{MayGo, its_turn}
use Rattle.spec_sphere.proofs.Moves.Threads.{run-status}
use Rattle.spec_finishing.proofs.Paying.Affording.{Afforded, afforded, part-limit}
use Rattle.spec_finishing.proofs.Paying.NextCommits.{ThreadNext, DmaNext}
use Rattle.spec_finishing.proofs.Paying.Logs.{BesideLog, log-thread_next, log-dma_next}
use Rattle.spec_finishing.proofs.Strata.GoingOn.{InStrata, strata-thread_next, strata-dma_next}

-- the replay p of that image, with cursor b, goes on
abbrev pub GoesOn : SphereSetup → Sphere → Cursor → Type 0
GoesOn image p b = BesideLog image p b ⊎ InStrata image p b

-- ---- its next commit

-- the next commit of a thread that may commit
pub thread-next : (image : SphereSetup) (p : Sphere) (b : Cursor) (k : ℕ) → GoesOn image p b → MayGo b k → ThreadNext image p b k
thread-next image p b k (inl g) may = log-thread_next image p b k g may
thread-next image p b k (inr s) may = strata-thread_next image p b k s may

-- the DMA whose turn it is
pub dma-next : (image : SphereSetup) (p : Sphere) (b : Cursor) → GoesOn image p b → b.now ≡ TurnOfDma → DmaNext image p b
dma-next image p b (inl g) turn = log-dma_next image p b g turn
dma-next image p b (inr s) turn = strata-dma_next image p b s turn

-- ---- the thread as it is now

-- a thread as it is now, of whose next commit the pieces are done
pub thread-now : (image : SphereSetup) (p : Sphere) (b : Cursor) (k : ℕ) → (h : ThreadNext image p b k) → slice_get p.threads k ≡ Some (run h.at.memory h.thread b.total).thread
thread-now image p b k h =
    ap (λ (ts : List Parts). slice_get ts k) h.moved.threads ∙ get-set_same h.at.threads k (run h.at.memory h.thread b.total).thread h.thread h.moved.is

-- the thread whose turn it is lives
pub thread-live : (image : SphereSetup) (p : Sphere) (b : Cursor) (k : ℕ) → GoesOn image p b → b.now ≡ Turn k → (u : Parts) × (slice_get p.threads k ≡ Some u) × (is_live u ≡ true)
thread-live image p b k g turn =
    let h = thread-next image p b k g (its_turn b k turn) in
    let r = run h.at.memory h.thread b.total in
    (r.thread, thread-now image p b k h, ap lives (run-status h.at.memory h.thread b.total) ∙ h.moved.live)

-- ---- what it can run

-- what is left of its next commit is enough for what the thread runs within its limit
pub part-afforded : (image : SphereSetup) (p : Sphere) (b : Cursor) (k : ℕ) (u : Parts) (s n : ℕ) → (h : ThreadNext image p b k) → slice_get p.threads k ≡ Some u → (run p.memory u n).n ≡ n → n ≤ limit_of s (Replay b) k u
    → Afforded h.work b.total n
part-afforded image p b k u s n h is ran most =
    let y = h.at in
    let t = h.thread in
    let r = run y.memory t b.total in
    let e : u ≡ r.thread = (let f : Some u ≡ Some r.thread = sym is ∙ thread-now image p b k h in cc) in
    subst (λ (work : ℕ). Afforded work b.total n) (sym h.works)
    (afforded b.log y k t b.total n h.moved.ran
    (subst (λ (m : List ℕ). (run m r.thread n).n ≡ n) h.moved.memory (subst (λ (v : Parts). (run p.memory v n).n ≡ n) e ran)) h.moved.within
    (subst (λ (l : ℕ). n ≤ l) (ap (limit_of s (Replay b) k) e ∙ part-limit s b k y.memory t h.own) most))
