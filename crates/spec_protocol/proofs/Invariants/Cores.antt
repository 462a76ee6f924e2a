-- The events of running chunks keep the invariant: Step and Cut.
use Rattle.std.proofs.Common.{◌≡◌, ◌≢◌, ℕ, ◌<◌, ◌⊎◌, inl, inr, false, eqb, List, [], length, Option, Some, None, refl, sym, ap, ◌∙◌, subst, arith, set}
use Rattle.std.proofs.Math.ListN.{length-set}
use Rattle.std.proofs.lemmas.Bool.{eqb-false, cases_lt, cases_eq}
use Rattle.std.proofs.lemmas.List.{get_or_past}
use Rattle.std.proofs.lemmas.Option.{none-some}
use Rattle.spec_isa.specs.Words.{lays}
use Rattle.spec_engine.specs.declared.answers.How.{How}
use Rattle.spec_engine.specs.declared.answers.CutReply.{CutReply}
use Rattle.spec_engine.specs.Flights.{Flight, at}
use Rattle.spec_engine.specs.Chunks.{Chunk, step, Cutting, cut_open}
use Rattle.spec_protocol.specs.machine.World.{Occupant, World, Move, EventOutcome, sphere_at, with_core, answered}
use Rattle.spec_protocol.specs.machine.Shown.{shown_of}
use Rattle.spec_engine.specs.Flying.{flying}
use Rattle.spec_protocol.specs.machine.Moves.{do_if, FitsIf}
use Rattle.spec_protocol.proofs.Moves.AnyEvent.{any-step, any-cut}
use Rattle.spec_protocol.specs.machine.Stepping.{with_chunk, stepped, stepping, cut_to, cutting, with_younger, stepped_younger, cut_younger}
use Rattle.spec_protocol.proofs.Memory.Slots.{at-set_same, at-set_other}
use Rattle.spec_protocol.proofs.Memory.Steps.{SameBase}
use Rattle.spec_protocol.proofs.Memory.Current.{step-good}
use Rattle.spec_protocol.proofs.Invariants.Preserved.{SameSizes, PointIs, Preserved, unchanged-preserved}
use Rattle.spec_protocol.specs.promises.Currency.{IsCurrent}
use Rattle.spec_protocol.proofs.Invariants.Held.{thread-same, follows-same, open-alone, IsYounger, younger-good}
use Rattle.spec_protocol.specs.promises.Invariants.{IsGoodChunk, current, IsGoodOver, IsOfThread, IsGoodHeld, IsAlone, IsGood, Follows}
pub use Rattle.spec_play.proofs.Threads.{branch}

-- ---- rows of cores and slots

-- what stands at j after a change at k is that, or stood there
pub set-cases : {A : Type 0} (xs : List (Option A)) (k j : ℕ) (v : Option A) (x : A) → at (set xs k v) j ≡ Some x → ((j ≡ k) × (v ≡ Some x)) ⊎ ((j ≢ k) × (at xs j ≡ Some x))
set-cases xs k j v x e =
    elim (cases_eq j k) [
      | inr ne ↦ inr (ne, sym (at-set_other xs k j v ne) ∙ e)
      | inl same ↦ elim (cases_lt k (length xs)) [
        | inl l ↦ inl (same, sym (at-set_same xs k v l) ∙ ap (at (set xs k v)) (sym same) ∙ e)
        | inr past ↦ absurd (none-some x (sym (get_or_past (set xs k v) j None (let h = length-set xs k v in omega arith)) ∙ e))
      ]
    ]

-- after a change at one core each thread is still on one core, if no other core holds the new one's
pub alone-set : (cores : List (Option Occupant)) (c : ℕ) (o : Option Occupant) → IsAlone cores → ((h : Occupant) → o ≡ Some h → (d : ℕ) (g : Occupant) → d ≢ c → at cores d ≡ Some g → h.chunk.sphere ≡ g.chunk.sphere → h.thread ≡ g.thread → ⊥) → IsAlone (set cores c o)
alone-set cores c o alone new a b h g ah bg sphere thread =
    elim (set-cases cores c a o h ah) [
      | inl p ↦ elim (set-cases cores c b o g bg) [
        | inl q ↦ p.0 ∙ sym q.0
        | inr q ↦ absurd (new h p.1 b g q.0 q.1 sphere thread)
      ]
      | inr p ↦ elim (set-cases cores c b o g bg) [
        | inl q ↦ absurd (new g q.1 a h p.0 p.1 (sym sphere) (sym thread))
        | inr q ↦ alone a b h g p.1 q.1 sphere thread
      ]
    ]

-- ---- one core changes

-- what another core holds stays good, whatever is put on core c
pub held_there : (w : World) (c d : ℕ) (o : Option Occupant) (g : Occupant) → IsGoodHeld w d g → IsGoodHeld (with_core w c o) d g
held_there w c d o g good =
    record { sphere = good.sphere; thread = good.thread; chunk = good.chunk; follows = good.follows; younger = good.younger }

-- a world stays good where core c is given something good, whose thread is on no other core
pub core-good : (w : World) (c : ℕ) (o : Option Occupant) → IsGood w → ((h : Occupant) → o ≡ Some h → IsGoodHeld w c h)
    → ((h : Occupant) → o ≡ Some h → (d : ℕ) (g : Occupant) → d ≢ c → at w.cores d ≡ Some g → h.chunk.sphere ≡ g.chunk.sphere → h.thread ≡ g.thread → ⊥) → IsGood (with_core w c o)
core-good w c o good new other =
    record {
      buffer = good.buffer;
      standard = good.standard;
      apart = good.apart;
      covered = good.covered;
      flights = good.flights;
      held = λ d g e. elim (set-cases w.cores c d o g e) [
        | inl p ↦ held_there w c d o g (subst (λ (k : ℕ). IsGoodHeld w k g) (sym p.0) (new g p.1))
        | inr p ↦ held_there w c d o g (good.held d g p.1)
      ];
      alone = alone-set w.cores c o good.alone other;
    }

-- such a change of one core, which moves no sphere and makes no point, keeps the invariant
pub core-preserved : (w : World) (c : ℕ) (o : Option Occupant) (a : EventOutcome) → a.world ≡ with_core w c o → a.move ≡ None → a.point ≡ None → IsGood (with_core w c o) → Preserved w a
core-preserved w c o a world move point good =
    record {
      good = subst IsGood (sym world) good;
      sizes = subst (SameSizes w) (sym world) (record { numbers = refl; spheres = refl; cores = length-set w.cores c o; slots = refl });
      point = subst (λ (m : Option Move). PointIs w m a.point) (sym move) point;
      whole = ap shown_of world ∙ sym (ap (do_if w.numbers (shown_of w)) move);
      fits = subst (FitsIf w.numbers (shown_of w)) (sym move) tt;
    }

-- ---- the core's chunk changes, and its base does not

-- what core c holds is good with an older chunk of the same base, which none follows, that is good over the current
-- memory
held-same : (w : World) (c : ℕ) (h : Occupant) (dh : Chunk) → IsGoodHeld w c h → h.younger ≡ None → SameBase h.chunk dh → IsGoodOver w c h.chunk.sphere [] dh → IsGoodHeld w c (record h { chunk = dh })
held-same w c h dh good none base chunk =
    record {
      sphere = subst (λ (i : ℕ). i < length w.spheres) (sym base.sphere) good.sphere;
      thread = subst (λ (i : ℕ). IsOfThread w.numbers.s (sphere_at w i) h.thread dh) (sym base.sphere)
          (thread-same w.numbers.s (sphere_at w h.chunk.sphere) h.thread h.chunk dh base good.thread);
      chunk = subst (λ (i : ℕ). IsGoodOver w c i [] dh) (sym base.sphere) chunk;
      follows = λ y e. absurd (none-some y (sym none ∙ e));
      younger = λ y e. absurd (none-some y (sym none ∙ e));
    }

-- and with a younger one that follows the older and is good over its words
younger-held : (w : World) (c : ℕ) (h : Occupant) (y : Chunk) → IsGoodHeld w c h → IsYounger w c h y → IsGoodHeld w c (record h { younger = Some y })
younger-held w c h y good is =
    record {
      sphere = good.sphere;
      thread = good.thread;
      chunk = good.chunk;
      follows = λ x e. subst (Follows w.numbers (sphere_at w h.chunk.sphere) h.thread h.chunk) (let q : y ≡ x = cc in q) is.0;
      younger = λ x e. subst (IsGoodOver w c h.chunk.sphere h.chunk.done.words) (let q : y ≡ x = cc in q) is.1;
    }

-- nobody else runs the thread of what core c holds
pub others-differ : (w : World) (c : ℕ) (h x : Occupant) → IsGood w → at w.cores c ≡ Some h → x.chunk.sphere ≡ h.chunk.sphere → x.thread ≡ h.thread → (k : Occupant) → Some x ≡ Some k → (d : ℕ) (g : Occupant) → d ≢ c → at w.cores d ≡ Some g → k.chunk.sphere ≡ g.chunk.sphere → k.thread ≡ g.thread → ⊥
others-differ w c h x good is same thread_same k e d g ne there sphere thread =
    let q : x ≡ k = cc in
    ne (good.alone d c g h there is (sym sphere ∙ ap (λ (y : Occupant). y.chunk.sphere) (sym q) ∙ same) (sym thread ∙ ap (λ (y : Occupant). y.thread) (sym q) ∙ thread_same))

-- core c holds its thread still, and what it holds is good
held_preserved : (w : World) (c : ℕ) (h x : Occupant) (a : EventOutcome) → IsGood w → at w.cores c ≡ Some h → x.chunk.sphere ≡ h.chunk.sphere → x.thread ≡ h.thread → IsGoodHeld w c x → a.world ≡ with_core w c (Some x) → a.move ≡ None → a.point ≡ None → Preserved w a
held_preserved w c h x a good is sphere thread held world move point =
    core-preserved w c (Some x) a world move point
    (core-good w c (Some x) good (λ k e. subst (IsGoodHeld w c) (let q : x ≡ k = cc in q) held) (others-differ w c h x good is sphere thread))

chunk_preserved : (w : World) (c : ℕ) (h : Occupant) (dh : Chunk) (a : EventOutcome) → IsGood w → at w.cores c ≡ Some h → h.younger ≡ None → SameBase h.chunk dh → IsGoodOver w c h.chunk.sphere [] dh
    → a.world ≡ with_chunk w c h dh → a.move ≡ None → a.point ≡ None → Preserved w a
chunk_preserved w c h dh a good is none base chunk =
    held_preserved w c h (record h { chunk = dh }) a good is base.sphere refl (held-same w c h dh (good.held c h is) none base chunk)

younger_preserved : (w : World) (c : ℕ) (h : Occupant) (y : Chunk) (a : EventOutcome) → IsGood w → at w.cores c ≡ Some h → IsYounger w c h y → a.world ≡ with_younger w c h y → a.move ≡ None → a.point ≡ None → Preserved w a
younger_preserved w c h y a good is younger =
    held_preserved w c h (record h { younger = Some y }) a good is refl refl (younger-held w c h y (good.held c h is) younger)

-- ---- Step

-- the event Step keeps the invariant
pub step-preserved : (w : World) (c : ℕ) → IsGood w → Preserved w (stepping w c)
step-preserved w c good =
    any-step w (Preserved w) (λ r none. unchanged-preserved w (answered w r) refl refl refl good) c
    (λ h is opened.
    let s = step w.numbers.capacity (sphere_at w h.chunk.sphere).memory w.slots c h.chunk in
    let held = good.held c h is in
    let r = step-good w.numbers.capacity w.numbers.bits w.slots c (sphere_at w h.chunk.sphere).memory [] h.chunk good.covered opened held.chunk in
    chunk_preserved w c h s.chunk (stepped w c h s) good is (open-alone w c h opened held) r.1 r.0 refl refl refl)
    (λ h y is e opened.
    let i = h.chunk.sphere in
    let p = sphere_at w i in
    let ws = h.chunk.done.words in
    let s = step w.numbers.capacity (lays p.memory ws) w.slots c y in
    let younger = younger-good w c h y good.standard (good.held c h is) e in
    let same = younger.0.sphere in
    let r = step-good w.numbers.capacity w.numbers.bits w.slots c p.memory ws y good.covered opened
    (subst (λ (n : ℕ). IsGoodChunk w.numbers.capacity w.numbers.bits w.slots c (lays (lays p.memory (flying n w.slots)) ws) y) (sym same) younger.1)
    in
    younger_preserved w c h s.chunk (stepped_younger w c h s) good is (
      follows-same w.numbers p h.thread h.chunk y s.chunk r.1 younger.0,
      subst (λ (n : ℕ). IsGoodChunk w.numbers.capacity w.numbers.bits w.slots c (lays (lays p.memory (flying n w.slots)) ws) s.chunk) same r.0,
    )
    refl refl refl)

-- ---- Cut

same_base : (ch : Chunk) → SameBase ch ch
same_base ch = record { sphere = refl; start = refl; limit = refl; halves = refl; reads = refl; writes = refl }

cut_base : (ch : Chunk) → SameBase ch (record ch { closed = Some How.Cut })
cut_base ch = record { sphere = refl; start = refl; limit = refl; halves = refl; reads = refl; writes = refl }

positive : (n : ℕ) → eqb n 0 ≡ false → 0 < n
positive n e = let h = eqb-false n 0 e in omega (arith, h)

cut_good : (capacity bits : ℕ) (xs : List (Option Flight)) (c : ℕ) (m : List ℕ) (ch : Chunk) → ch.closed ≡ None → 0 < ch.done.n → IsGoodChunk capacity bits xs c m ch → IsGoodChunk capacity bits xs c m (record ch { closed = Some How.Cut })
cut_good capacity bits xs c m ch open_ some good =
    record {
      reads_size = good.reads_size;
      writes_size = good.writes_size;
      apart = good.apart;
      writes = good.writes;
      loads = good.loads;
      closes = record {
        positive = good.closes.positive;
        opened = λ e. absurd (none-some How.Cut (sym e));
        full = λ e. cc;
        early = λ how e ne. good.closes.opened open_;
        cut = λ e. some;
        room = λ e. cc;
        few = good.closes.few;
        few_loads = good.closes.few_loads;
      };
      live = λ quiet.
          let live : IsCurrent m ch = good.live quiet in
          record {
            runs = live.runs;
            touches = live.touches;
            next = tt;
          };
    }

cut_open_preserved : (w : World) (c : ℕ) (h : Occupant) (o : Option How) → at w.cores c ≡ Some h → h.younger ≡ None → h.chunk.closed ≡ o → IsGood w → Preserved w (cut_to w c h (cut_open h.chunk o))
cut_open_preserved w c h (Some how) is none closed good =
    chunk_preserved w c h h.chunk (cut_to w c h (cut_open h.chunk (Some how))) good is none (same_base h.chunk) (good.held c h is).chunk refl refl refl
cut_open_preserved w c h None is none closed good =
    branch (λ (s : Cutting). Preserved w (cut_to w c h s)) (eqb h.chunk.done.n 0) (record { reply = CutReply.NothingRun; chunk = h.chunk }) (record { reply = CutReply.Closed; chunk = record h.chunk { closed = Some How.Cut } })
    (λ _. chunk_preserved w c h h.chunk (cut_to w c h (record { reply = CutReply.NothingRun; chunk = h.chunk })) good is none (same_base h.chunk) (good.held c h is).chunk refl refl refl)
    (λ e. let dh = record h.chunk { closed = Some How.Cut } in
    chunk_preserved w c h dh (cut_to w c h (record { reply = CutReply.Closed; chunk = dh })) good is none
    (cut_base h.chunk)
    (cut_good w.numbers.capacity w.numbers.bits w.slots c (current w h.chunk.sphere) h.chunk closed (positive h.chunk.done.n e) (good.held c h is).chunk) refl refl refl)

cut_younger_preserved : (w : World) (c : ℕ) (h : Occupant) (y : Chunk) (o : Option How) → at w.cores c ≡ Some h → h.younger ≡ Some y → y.closed ≡ o → IsGood w → Preserved w (cut_younger w c h (cut_open y o))
cut_younger_preserved w c h y (Some how) is there closed good =
    let held = good.held c h is in
    younger_preserved w c h y (cut_younger w c h (cut_open y (Some how))) good is (held.follows y there, held.younger y there) refl refl refl
cut_younger_preserved w c h y None is there closed good =
    let held = good.held c h is in
    branch (λ (s : Cutting). Preserved w (cut_younger w c h s)) (eqb y.done.n 0) (record { reply = CutReply.NothingRun; chunk = y }) (record { reply = CutReply.Closed; chunk = record y { closed = Some How.Cut } })
    (λ _. younger_preserved w c h y (cut_younger w c h (record { reply = CutReply.NothingRun; chunk = y })) good is (held.follows y there, held.younger y there) refl refl refl)
    (λ e. let dh = record y { closed = Some How.Cut } in
    younger_preserved w c h dh (cut_younger w c h (record { reply = CutReply.Closed; chunk = dh })) good is (
      follows-same w.numbers (sphere_at w h.chunk.sphere) h.thread h.chunk y dh (cut_base y) (held.follows y there),
      cut_good w.numbers.capacity w.numbers.bits w.slots c (lays (current w h.chunk.sphere) h.chunk.done.words) y closed (positive y.done.n e) (held.younger y there),
    )
    refl refl refl)

-- the event Cut keeps the invariant
pub cut-preserved : (w : World) (c : ℕ) → IsGood w → Preserved w (cutting w c)
cut-preserved w c good =
    any-cut w (Preserved w) (λ r none. unchanged-preserved w (answered w r) refl refl refl good) c
    (λ h is none. cut_open_preserved w c h h.chunk.closed is none refl good)
    (λ h y is there. cut_younger_preserved w c h y y.closed is there refl good)
