-- Serial steps and DMAs of a replay pay, as its chunks do.
use Rattle.std.proofs.Common.{◌≡◌, ℕ, suc, ◌+◌, ◌-◌, ◌≤◌, inl, inr, false, length, Option, Some, None, refl, sym, ap, ◌∙◌, subst, arith, set}
use Rattle.std.specs.Prelude.{slice_get, IsSome, option_map}
use Rattle.std.proofs.lemmas.Bool.{true≢false, lt-ltb, cases_lt}
use Rattle.dl_entry.specs.declared.End.{End}
use Rattle.spec_isa.specs.declared.thread.Parts.{Parts}
use Rattle.spec_isa.specs.declared.thread.Kind.{Kind}
use Rattle.spec_isa.specs.Words.{lays}
use Rattle.spec_isa.specs.Runs.{Run, run}
use Rattle.spec_kernel.specs.Devices.{Devices}
use Rattle.spec_kernel.specs.Needs.{next_kind}
use Rattle.spec_play.specs.Progress.{position, with_dma, with_dma_used}
use Rattle.spec_play.specs.Turns.{Ended}
use Rattle.spec_play.specs.Verdicts.{LogVerdict, Goes, Fails, serial_verdict}
use Rattle.spec_play.specs.Transfers.{DmaVerdict, DmaGoes, DmaFails, dma_verdict}
use Rattle.spec_play.specs.Plays.{Played}
use Rattle.spec_strata.specs.Standing.{after_dma}
use Rattle.spec_sphere.specs.sphere.Spheres.{Cursor, Role, Replay, Sphere, is_in_pieces}
use Rattle.spec_sphere.specs.sphere.Commits.{MovedSphere, turned, by_verdict, serial_in, serial_moved, dma_by_verdict, dma_in, dma_moved}
use Rattle.spec_sphere.specs.sphere.Setups.{SphereSetup}
use Rattle.spec_sphere.specs.sphere.Commits.{laid}
use Rattle.spec_sphere.specs.sphere.Moves.{SerialFits}
use Rattle.spec_finishing.specs.Work.{stored, dma_stored, thread_work}
use Rattle.spec_finishing.specs.Rank.{replay_left, price}
use Rattle.spec_finishing.proofs.Paying.Plays.{left-over, words-paid, whole-pays}
use Rattle.spec_finishing.proofs.Paying.NextCommits.{ThreadNext, DmaNext}
use Rattle.spec_finishing.proofs.Paying.GoingOn.{thread-now}
use Rattle.spec_finishing.proofs.Left.Rows.{sphere_rank}
use Rattle.spec_finishing.proofs.Paying.Commits.{rank-left, verdict-pays}
use Rattle.spec_replay.proofs.Commits.Standing.{set_here}
use Rattle.spec_replay.proofs.Commits.Done.{done_in}

-- ---- serial steps

verdict_words : (b : Cursor) (k : ℕ) (x : LogVerdict) (devices : Devices) (p : Sphere) → length (by_verdict b k x devices p).words ≡ stored x
verdict_words b k (Goes e u) devices p = refl
verdict_words b k (Fails why) devices p = refl

no_pieces : (p : Sphere) (b : Cursor) → p.role ≡ Replay b → is_in_pieces p.role ≡ false → b.total ≡ 0
no_pieces p b role e =
    elim (cases_lt 0 b.total) [
      | inl l ↦ absurd (true≢false (sym (lt-ltb 0 b.total l) ∙ sym (ap is_in_pieces role) ∙ e))
      | inr past ↦ omega arith
    ]

-- if no piece is done, the sphere is as its play's
record Unmoved (at : Played) (p : Sphere) (t u : Parts) : Type 0 where
  thread : u ≡ t
  memory : p.memory ≡ at.memory
  threads : p.threads ≡ at.threads

unmoved : (image : SphereSetup) (p : Sphere) (b : Cursor) (k : ℕ) (u : Parts) → (h : ThreadNext image p b k) → b.total ≡ 0 → slice_get p.threads k ≡ Some u → Unmoved h.at p h.thread u
unmoved image p b k u h none is =
    let y = h.at in
    let t = h.thread in
    let start : run y.memory t b.total ≡ run y.memory t 0 = ap (run y.memory t) none in
    record {
      thread = (let f : Some u ≡ Some t = sym is ∙ thread-now image p b k h ∙ ap (λ (r : Run). Some r.thread) start in cc);
      memory = h.moved.memory ∙ ap (λ (r : Run). lays y.memory r.words) start;
      threads = h.moved.threads ∙ ap (λ (r : Run). set y.threads k r.thread) start ∙ set_here y.threads k t h.moved.is;
    }

kind_is : (o : Option Kind) → IsSome o → (kind : Kind) × (o ≡ Some kind)
kind_is None some = absurd (true≢false (sym some))
kind_is (Some kind) some = (kind, refl)

-- the work of the commit is that of this verdict
serial_is : (image : SphereSetup) (p : Sphere) (b : Cursor) (k : ℕ) (u : Parts) (kind : Kind) → (h : ThreadNext image p b k) → Unmoved h.at p h.thread u → next_kind u p.memory ≡ Some kind
    → h.work ≡ suc (stored (serial_verdict b.log p.progress b.used k p.threads u p.memory))
serial_is image p b k u kind h s next =
    let y = h.at in
    let same : next_kind h.thread y.memory ≡ Some kind = (λ i. next_kind (sym s.thread i) (sym s.memory i)) ∙ next in
    h.works ∙ ap (λ (o : Option Kind). suc (thread_work b.log y k h.thread o)) same
    ∙ (λ i. suc (stored (serial_verdict b.log (sym h.progress i) (sym h.used i) k (sym s.threads i) (sym s.thread i) (sym s.memory i))))

serial_rank : (c : ℕ) (image : SphereSetup) (p : Sphere) (b : Cursor) (k : ℕ) (x : LogVerdict) (devices : Devices) → p.role ≡ Replay b → (h : ThreadNext image p b k) → b.total ≡ 0 → h.work ≡ suc (stored x)
    → sphere_rank c image (laid (by_verdict b k x devices p)) + ((length (by_verdict b k x devices p).words + c + 1) + 3) ≤ sphere_rank c image p
serial_rank c image p b k x devices role h none work =
    let e : h.work - b.total ≡ suc (stored x) = omega (arith, none, work) in
    let l = ap (price c) e in
    let paid_ = words-paid c (stored x) in
    let words = verdict_words b k x devices p in
    let pays = verdict-pays c image p b k role h x devices ((length (by_verdict b k x devices p).words + c + 1) + 3) (omega (arith, none, work)) (omega (arith, l, paid_, words)) in
    pays

-- a serial step of a thread that may commit pays for its flight and three events
pub serial-pays : (c : ℕ) (image : SphereSetup) (p : Sphere) (b : Cursor) (k moment : ℕ) (u : Parts) (devices : Devices) → p.role ≡ Replay b → ThreadNext image p b k → slice_get p.threads k ≡ Some u → SerialFits p k u
    → let v = serial_moved k moment u devices p in sphere_rank c image (laid v) + ((length v.words + c + 1) + 3) ≤ sphere_rank c image p
unfolding serial_moved
serial-pays c image p b k moment u devices role h is fits =
    let none = no_pieces p b role fits.whole in
    let s = unmoved image p b k u h none is in
    let kind = kind_is (next_kind u p.memory) fits.serial in
    subst (λ (r : Role). let v = serial_in r k moment u devices p in sphere_rank c image (laid v) + ((length v.words + c + 1) + 3) ≤ sphere_rank c image p) (sym role)
    (serial_rank c image p b k (serial_verdict b.log p.progress b.used k p.threads u p.memory) devices role h none (serial_is image p b k u kind.0 h s kind.1))

-- ---- DMAs

dma_rank : (c : ℕ) (image : SphereSetup) (p : Sphere) (b : Cursor) (x : DmaVerdict) (devices : Devices) → p.role ≡ Replay b → (h : DmaNext image p b) → h.work ≡ suc (dma_stored x)
    → let v = dma_by_verdict b x devices p in sphere_rank c image (laid v) + ((length v.words + c + 1) + 3) ≤ sphere_rank c image p
dma_rank c image p b (DmaFails why) devices role h work =
    let before = rank-left c image p b ((h.work + h.later) - b.total) role h.left in
    let ended : Cursor = record b { now = Ended (End.Diverged (position p.progress) why) } in
    let over = left-over image ended (done_in p) refl in
    let none = h.none in
    let e : h.work - b.total ≡ 1 = omega (arith, none, work) in
    let l = ap (price c) e in
    let paid_ = words-paid c 0 in
    let pays = whole-pays c h.work b.total h.later ((0 + c + 1) + 3) (omega (arith, none, work)) (omega (arith, l, paid_)) (replay_left image ended (done_in p)) (omega (arith, over)) in
    omega (arith, before, pays)
dma_rank c image p b (DmaGoes words) devices role h work =
    let before = rank-left c image p b ((h.work + h.later) - b.total) role h.left in
    let progress = with_dma p.progress in
    let after = turned b.log b.interval (option_map after_dma b.strata) progress (with_dma_used b.used) p.threads in
    let none = h.none in
    let e : h.work - b.total ≡ suc (length words) = omega (arith, none, work) in
    let l = ap (price c) e in
    let paid_ = words-paid c (length words) in
    let pays = whole-pays c h.work b.total h.later ((length words + c + 1) + 3) (omega (arith, none, work)) (omega (arith, l, paid_)) (replay_left image after (length progress.commits)) h.whole in
    omega (arith, before, pays)

-- the DMA of the sphere
abbrev pub DmaPays : (c : ℕ) → SphereSetup → Sphere → Option MovedSphere → Type 0
DmaPays c image p None = Unit {0}
DmaPays c image p (Some v) = sphere_rank c image (laid v) + ((length v.words + c + 1) + 3) ≤ sphere_rank c image p

-- a DMA whose turn it is pays for its flight and three events
pub dma-pays : (c : ℕ) (image : SphereSetup) (p : Sphere) (b : Cursor) (devices : Devices) → p.role ≡ Replay b → DmaNext image p b → DmaPays c image p (dma_moved devices p)
unfolding dma_moved
dma-pays c image p b devices role h =
    subst (λ (r : Role). DmaPays c image p (dma_in r devices p)) (sym role)
    (dma_rank c image p b (dma_verdict b.log p.progress b.used) devices role h
    (h.works ∙ (λ i. suc (dma_stored (dma_verdict b.log (sym h.progress i) (sym h.used i))))))
