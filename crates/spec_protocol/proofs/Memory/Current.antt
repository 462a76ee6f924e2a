-- A chunk that no untold flight hits is a run on the current memory, and stays so.
use Rattle.std.proofs.Common.{◌≡◌, ℕ, suc, inl, inr, Bool, true, List, Option, Some, None, refl, sym, ap, ◌∙◌, subst, arith}
use Rattle.std.specs.Prelude.{IsSome}
use Rattle.std.proofs.lemmas.Bool.{true≢false, and_parts, cases_lt, false_from_ne_true}
use Rattle.spec_isa.specs.declared.thread.Parts.{Parts}
use Rattle.spec_isa.specs.declared.thread.Kind.{Kind}
use Rattle.spec_isa.specs.Words.{Stored, lays}
use Rattle.spec_isa.specs.Instruction.{InstructionOutcome, Next, Serial, one}
use Rattle.spec_isa.specs.Runs.{Run, followed, more, run}
use Rattle.spec_engine.specs.declared.answers.How.{How}
use Rattle.spec_engine.specs.declared.answers.Stepped.{Stepped}
use Rattle.spec_engine.specs.Signatures.{Signature, hits, line}
use Rattle.spec_engine.specs.Flights.{Flight, is_none, first_slot, bounces}
use Rattle.spec_engine.specs.Chunks.{Chunk, Stepping, step}
use Rattle.spec_engine.specs.Laws.{StepAgrees}
use Rattle.spec_engine.proofs.Stepping.{steps_are}
use Rattle.spec_engine.specs.Flying.{flying}
use Rattle.spec_play.specs.Touching.{Agree, Touches, RunTouches}
use Rattle.spec_play.proofs.Local.Laying.{Agree-lays, Agree-unseen}
use Rattle.spec_sphere.proofs.Memory.Running.{Touches_local, Touches_more}
use Rattle.spec_play.proofs.Local.Running.{one_local, one_serial}
use Rattle.spec_protocol.proofs.Memory.Covering.{clear, clear-lacks, unseen_from}
use Rattle.spec_protocol.proofs.Memory.Steps.{SameBase, Looks, step-stays}
use Rattle.spec_protocol.specs.promises.Currency.{Meets, seen_by, IsCurrent, IsQuiet}
use Rattle.spec_sphere.specs.promises.Currency.{StoresAnew}
use Rattle.spec_protocol.specs.promises.Invariants.{AreCovered, IsGoodChunk}

-- ---- a run that goes on

make_live : (m : List ℕ) (dh : Chunk) (t : Parts) (r : Run) → dh.start ≡ t → dh.done ≡ r → run m t r.n ≡ r → RunTouches (seen_by dh) m t r.n
    → Meets (seen_by dh) m r dh.closed → IsCurrent m dh
make_live m dh t r start done runs touches meets =
    record {
      runs = (λ i. run m (start i) (done i).n) ∙ runs ∙ sym done;
      touches = subst (λ (q : Run). RunTouches (seen_by dh) m dh.start q.n) (sym done) (subst (λ (u : Parts). RunTouches (seen_by dh) m u r.n) (sym start) touches);
      next = subst (λ (q : Run). Meets (seen_by dh) m q dh.closed) (sym done) meets;
    }

-- it is not closed before an instruction
abbrev EndsAfter : Option How → Type 0
EndsAfter None = Unit {0}
EndsAfter (Some How.Limit) = Unit {0}
EndsAfter (Some How.Serial) = ⊥
EndsAfter (Some How.Overflow) = ⊥
EndsAfter (Some How.Cut) = Unit {0}

meets_none : (seen : ℕ → Bool) (m : List ℕ) (r : Run) (o : Option How) → EndsAfter o → Meets seen m r o
meets_none seen m r None after = tt
meets_none seen m r (Some How.Limit) after = tt
meets_none seen m r (Some How.Serial) after = absurd after
meets_none seen m r (Some How.Overflow) after = absurd after
meets_none seen m r (Some How.Cut) after = tt

-- more reads cover what fewer did
touches_on : (ch dh : Chunk) (m : List ℕ) → ((a : ℕ) → seen_by ch a ≡ true → seen_by dh a ≡ true) → RunTouches (seen_by ch) m ch.start ch.done.n → RunTouches (seen_by dh) m ch.start ch.done.n
touches_on ch dh m more_ touches i l = Touches_more (seen_by ch) (seen_by dh) _ _ more_ (touches i l)

last_touches : (seen : ℕ → Bool) (m : List ℕ) (t : Parts) (r : Run) (n : ℕ) → run m t n ≡ r → Touches seen r.thread (lays m r.words) → RunTouches seen m t n → RunTouches seen m t (suc n)
last_touches seen m t r n runs last touches i l =
    elim (cases_lt i n) [
      | inl h ↦ touches i h
      | inr h ↦ (
          let e : n ≡ i = omega arith in
          subst (λ (k : ℕ). Touches seen (run m t k).thread (lays m (run m t k).words)) e (subst (λ (q : Run). Touches seen q.thread (lays m q.words)) (sym runs) last)
          )
    ]

-- the run of ch goes on by the outcome of its next instruction
live_followed : (m : List ℕ) (ch dh : Chunk) (o : InstructionOutcome) → IsCurrent m ch → dh.start ≡ ch.start → ((a : ℕ) → seen_by ch a ≡ true → seen_by dh a ≡ true) → EndsAfter dh.closed → one ch.done.thread (lays m ch.done.words) ≡ o
    → dh.done ≡ followed ch.done o → Touches (seen_by dh) ch.done.thread (lays m ch.done.words) → IsCurrent m dh
live_followed m ch dh (Serial kind) live start more_ open_ is done touches =
    make_live m dh ch.start ch.done start done live.runs (touches_on ch dh m more_ live.touches) (meets_none (seen_by dh) m ch.done dh.closed open_)
live_followed m ch dh (Next u load store) live start more_ open_ is done touches =
    make_live m dh ch.start (followed ch.done (Next u load store)) start done
    (ap (more m) live.runs ∙ ap (followed ch.done) is)
    (last_touches (seen_by dh) m ch.start ch.done ch.done.n live.runs touches (touches_on ch dh m more_ live.touches))
    (meets_none (seen_by dh) m (followed ch.done (Next u load store)) dh.closed open_)

-- nothing was run, and the chunk is not closed for a serial instruction
live_same : (m : List ℕ) (ch dh : Chunk) → IsCurrent m ch → dh.start ≡ ch.start → ((a : ℕ) → seen_by ch a ≡ true → seen_by dh a ≡ true) → EndsAfter dh.closed → dh.done ≡ ch.done → IsCurrent m dh
live_same m ch dh live start more_ open_ done =
    make_live m dh ch.start ch.done start done live.runs (touches_on ch dh m more_ live.touches) (meets_none (seen_by dh) m ch.done dh.closed open_)

-- it met a serial instruction
live_serial : (m : List ℕ) (ch dh : Chunk) (kind : Kind) → IsCurrent m ch → dh.start ≡ ch.start → ((a : ℕ) → seen_by ch a ≡ true → seen_by dh a ≡ true) → dh.closed ≡ Some How.Serial → dh.done ≡ ch.done → one ch.done.thread (lays m ch.done.words) ≡ Serial kind
    → Touches (seen_by dh) ch.done.thread (lays m ch.done.words) → IsCurrent m dh
live_serial m ch dh kind live start more_ closed done is touches =
    make_live m dh ch.start ch.done start done live.runs (touches_on ch dh m more_ live.touches)
    (subst (Meets (seen_by dh) m ch.done) (sym closed) (record { touches = touches; serial = subst IsSome (sym (one_serial _ _ kind is)) refl }))

-- it met a store that found no room
live_overflow : (m : List ℕ) (ch dh : Chunk) → IsCurrent m ch → dh.start ≡ ch.start → ((a : ℕ) → seen_by ch a ≡ true → seen_by dh a ≡ true) → dh.closed ≡ Some How.Overflow → dh.done ≡ ch.done → StoresAnew ch.done.thread (lays m ch.done.words) ch.done.words
    → Touches (seen_by dh) ch.done.thread (lays m ch.done.words) → IsCurrent m dh
live_overflow m ch dh live start more_ closed done anew touches =
    make_live m dh ch.start ch.done start done live.runs (touches_on ch dh m more_ live.touches)
    (subst (Meets (seen_by dh) m ch.done) (sym closed) (record { touches = touches; anew = anew }))

-- ---- one step on a memory r, beside flights whose words lie over it in the current memory

clear_seen : (xs : List (Option Flight)) (c : ℕ) (dh : Chunk) (a : ℕ) → clear xs c dh a ≡ true → seen_by dh a ≡ true
clear_seen xs c dh a e = (and_parts (seen_by dh a) (is_none (first_slot (bounces c (line dh.sphere a)) xs)) e).0

live_step : (xs : List (Option Flight)) (c : ℕ) (r m : List ℕ) (ch : Chunk) (s : Stepping) (reply : Stepped) → IsCurrent m ch → SameBase ch s.chunk → ((a : ℕ) → seen_by ch a ≡ true → seen_by s.chunk a ≡ true)
    → Agree (clear xs c s.chunk) r m → Looks xs c (lays r ch.done.words) ch s.chunk reply → StepAgrees r ch s reply → IsCurrent m s.chunk
live_step xs c r m ch s Stepped.Ran live base more_ g looks agrees =
    let h = Agree-lays (clear xs c s.chunk) r m ch.done.words g in
    live_followed m ch s.chunk (one ch.done.thread (lays r ch.done.words)) live base.start more_ (subst EndsAfter (sym looks.0) tt)
    (one_local (clear xs c s.chunk) ch.done.thread _ _ h looks.1)
    agrees
    (Touches_more (clear xs c s.chunk) (seen_by s.chunk) _ _ (clear_seen xs c s.chunk) (Touches_local (clear xs c s.chunk) ch.done.thread _ _ h looks.1))
live_step xs c r m ch s (Stepped.Closed How.Limit) live base more_ g looks agrees =
    let h = Agree-lays (clear xs c s.chunk) r m ch.done.words g in
    live_followed m ch s.chunk (one ch.done.thread (lays r ch.done.words)) live base.start more_ (subst EndsAfter (sym looks.0) tt)
    (one_local (clear xs c s.chunk) ch.done.thread _ _ h looks.1)
    agrees
    (Touches_more (clear xs c s.chunk) (seen_by s.chunk) _ _ (clear_seen xs c s.chunk) (Touches_local (clear xs c s.chunk) ch.done.thread _ _ h looks.1))
live_step xs c r m ch s (Stepped.Closed How.Serial) live base more_ g looks agrees =
    let h = Agree-lays (clear xs c s.chunk) r m ch.done.words g in
    live_serial m ch s.chunk agrees.1.0 live base.start more_ looks.0 agrees.0
    (one_local (clear xs c s.chunk) ch.done.thread _ _ h looks.1 ∙ agrees.1.1)
    (Touches_more (clear xs c s.chunk) (seen_by s.chunk) _ _ (clear_seen xs c s.chunk) (Touches_local (clear xs c s.chunk) ch.done.thread _ _ h looks.1))
live_step xs c r m ch s (Stepped.Closed How.Overflow) live base more_ g looks agrees =
    let h = Agree-lays (clear xs c s.chunk) r m ch.done.words g in
    let touches = looks.1 in
    let anew = looks.2 in
    live_overflow m ch s.chunk live base.start more_ looks.0 agrees
    (record { thread = anew.thread; load = anew.load; store = anew.store; next = one_local (clear xs c s.chunk) ch.done.thread _ _ h touches ∙ anew.next; new = anew.new })
    (Touches_more (clear xs c s.chunk) (seen_by s.chunk) _ _ (clear_seen xs c s.chunk) (Touches_local (clear xs c s.chunk) ch.done.thread _ _ h touches))
live_step xs c r m ch s (Stepped.Closed How.Cut) live base more_ g looks agrees = absurd looks
live_step xs c r m ch s (Stepped.Bounced k) live base more_ g looks agrees =
    live_same m ch s.chunk live base.start more_ (subst EndsAfter (sym looks) tt) (ap (λ (q : Chunk). q.done) agrees)

-- no untold flight hits fewer reads
quiet_less : (xs : List (Option Flight)) (c : ℕ) (ch dh : Chunk) → dh.sphere ≡ ch.sphere → ((g : Signature) → hits g ch.reads ≡ true → hits g dh.reads ≡ true) → IsQuiet xs dh.sphere c dh.reads → IsQuiet xs ch.sphere c ch.reads
quiet_less xs c ch dh same less q =
    record {
      misses = λ k f is e untold. false_from_ne_true (hits f.writes ch.reads) (λ h. true≢false (sym (less f.writes h) ∙ q.misses k f is (e ∙ sym same) untold));
    }

-- a step of an open chunk, on a memory with these words laid over it, keeps it good over the current memory with the words
-- laid over that, and keeps what it began from
pub step-good : (capacity bits : ℕ) (xs : List (Option Flight)) (c : ℕ) (r : List ℕ) (ws : List Stored) (ch : Chunk) → AreCovered bits xs → ch.closed ≡ None → IsGoodChunk capacity bits xs c (lays (lays r (flying ch.sphere xs)) ws) ch
    → let dh = (step capacity (lays r ws) xs c ch).chunk in IsGoodChunk capacity bits xs c (lays (lays r (flying ch.sphere xs)) ws) dh × SameBase ch dh
step-good capacity bits xs c r ws ch cov open_ good =
    let s = step capacity (lays r ws) xs c ch in
    let st = step-stays capacity (lays r ws) xs c ch (record { open_ = open_; closes = good.closes; apart = good.apart; writes = good.writes; loads = good.loads }) in (
      record {
        reads_size = st.base.reads ∙ good.reads_size;
        writes_size = st.base.writes ∙ good.writes_size;
        apart = st.apart;
        writes = st.writes;
        loads = st.loads;
        closes = st.closes;
        live = λ quiet.
            live_step xs c (lays r ws) (lays (lays r (flying ch.sphere xs)) ws) ch s s.reply
            (good.live (quiet_less xs c ch s.chunk st.base.sphere st.less_hits quiet))
            st.base
            st.more_reads
            (Agree-lays (clear xs c s.chunk) r (lays r (flying ch.sphere xs)) ws
            (subst (λ (i : ℕ). Agree (clear xs c s.chunk) r (lays r (flying i xs))) st.base.sphere
            (Agree-unseen (clear xs c s.chunk) r (flying s.chunk.sphere xs)
            (unseen_from (clear xs c s.chunk) (flying s.chunk.sphere xs)
            (λ a e. clear-lacks bits xs c s.chunk a cov (st.base.reads ∙ good.reads_size) quiet e)))))
            st.looks
            (steps_are capacity (lays r ws) xs c ch);
      },
      st.base,
    )
