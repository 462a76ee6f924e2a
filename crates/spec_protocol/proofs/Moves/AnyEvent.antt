-- What an event comes to, taken apart once: the machine only answers, or it does one of the things that change the world.
-- What holds of each of these holds of the event.
use Rattle.std.proofs.Common.{◌≡◌, ℕ, ◌<◌, inl, inr, Bool, true, false, cond, length, Option, Some, None, refl, sym, ap, ◌∙◌}
use Rattle.std.specs.Prelude.{slice_get}
use Rattle.std.proofs.lemmas.Bool.{true≢false, cases_lt}
use Rattle.std.proofs.lemmas.List.{get_or_past}
use Rattle.std.proofs.lemmas.Option.{none-some}
use Rattle.dl_entry.specs.declared.Actor.{Actor}
use Rattle.dl_entry.specs.declared.Why.{Why}
use Rattle.spec_isa.specs.declared.thread.Parts.{Parts}
use Rattle.spec_isa.specs.Words.{lays}
use Rattle.spec_kernel.specs.Interrupts.{is_live, has_handler}
use Rattle.spec_engine.specs.declared.answers.How.{How}
use Rattle.spec_engine.specs.Signatures.{nothing, signed}
use Rattle.spec_engine.specs.Flights.{Flight, at, is_full, first_slot, meets_chunk, is_of_sphere}
use Rattle.spec_engine.specs.Chunks.{Chunk, step, cut, is_open}
use Rattle.spec_engine.specs.Asking.{ask, denied_by, busy_by}
use Rattle.spec_protocol.specs.declared.event.Event.{Event}
use Rattle.spec_protocol.specs.declared.reply.Reply.{Reply}
use Rattle.spec_sphere.specs.sphere.Spheres.{turn_against, Sphere, no_sphere, is_stopped, replays}
use Rattle.spec_sphere.specs.sphere.Commits.{CommitOutcome, Granted, Piece, Diverged, MovedSphere, dma_in, dma_moved}
use Rattle.spec_protocol.specs.machine.World.{Occupant, World, EventOutcome, sphere_at, with_core, held_afresh, core_of, answered}
use Rattle.spec_protocol.specs.machine.Stepping.{stepped, step_held, stepping, cut_to, cut_held, cutting, stepped_younger, younger_for, step_younger, cut_younger, cut_in}
use Rattle.spec_protocol.specs.machine.Flying.{drain_slot, draining, delivering, retiring}
use Rattle.spec_protocol.specs.machine.Asking.{grant_chunk, grant_serial, unless_denied, unless_busy, asks_serial, ask_arbiter, unless_turn, ask_closed, ask_held, asking}
use Rattle.spec_protocol.specs.machine.Transferring.{dma_done, transfer, dma_with, dma_if, transferring}
use Rattle.spec_protocol.specs.machine.Placing.{unless_elsewhere, place_thread, placing, raise_in, raise_thread, raising}
use Rattle.spec_protocol.specs.machine.Machine.{core_no, sphere_no, slot_no, act}
use Rattle.spec_protocol.specs.promises.Replying.{makes_point}
use Rattle.spec_play.proofs.Threads.{branch}

-- ---- when the world is changed

-- core c, which holds h, asks for its chunk, which was closed so; no other actor has the turn, and a slot is free
pub record MayAsk (w : World) (c : ℕ) (h : Occupant) (how : How) : Type 0 where
  pub is : at w.cores c ≡ Some h
  pub closed : h.chunk.closed ≡ Some how
  pub going : is_stopped (sphere_at w h.chunk.sphere).role ≡ false
  pub turn : turn_against (sphere_at w h.chunk.sphere) (Actor.Thread h.thread) ≡ None
  pub free : is_full w.slots ≡ false

-- thread k of sphere p, which is t, takes an interrupt
pub record Raises (k : ℕ) (t : Parts) (p : Sphere) : Type 0 where
  pub is : slice_get p.threads k ≡ Some t
  pub live : is_live t ≡ true
  pub handler : has_handler t ≡ true
  pub mask : t.mask ≡ false
  pub role : replays p.role ≡ false

-- sphere i moves by v, its DMA
pub record Transfers (w : World) (i : ℕ) (v : MovedSphere) : Type 0 where
  pub within : i < length w.spheres
  pub going : is_stopped (sphere_at w i).role ≡ false
  pub turn : turn_against (sphere_at w i) Actor.Dma ≡ None
  pub is : dma_moved w.devices (sphere_at w i) ≡ Some v

-- ---- each thing that is done, and what a predicate of it is to hold of

abbrev pub AfterStep : World → (EventOutcome → Type 0) → (core : ℕ) → Occupant → Type 0
AfterStep w Q c h = at w.cores c ≡ Some h → h.chunk.closed ≡ None → Q (stepped w c h (step w.numbers.capacity (sphere_at w h.chunk.sphere).memory w.slots c h.chunk))

-- of the younger chunk, that there is or that begins
abbrev pub AfterStepYounger : World → (EventOutcome → Type 0) → (core : ℕ) → Occupant → Chunk → Type 0
AfterStepYounger w Q c h y =
    let p = sphere_at w h.chunk.sphere in
    at w.cores c ≡ Some h → younger_for w.numbers p.role h h.younger ≡ Some y → y.closed ≡ None
    → Q (stepped_younger w c h (step w.numbers.capacity (lays p.memory h.chunk.done.words) w.slots c y))

abbrev pub AfterCut : World → (EventOutcome → Type 0) → (core : ℕ) → Occupant → Type 0
AfterCut w Q c h = at w.cores c ≡ Some h → h.younger ≡ None → Q (cut_to w c h (cut h.chunk))

abbrev pub AfterCutYounger : World → (EventOutcome → Type 0) → (core : ℕ) → Occupant → Chunk → Type 0
AfterCutYounger w Q c h y = at w.cores c ≡ Some h → h.younger ≡ Some y → Q (cut_younger w c h (cut y))

-- a chunk that meets no flight
abbrev pub AfterChunk : World → (EventOutcome → Type 0) → (core : ℕ) → Occupant → How → Type 0
AfterChunk w Q c h how = MayAsk w c h how → asks_serial h.chunk (sphere_at w h.chunk.sphere).role ≡ false → first_slot (meets_chunk h.chunk.reads h.chunk.writes) w.slots ≡ None → Q (grant_chunk w c h how)

-- a serial step of a sphere that no flight is of
abbrev pub AfterSerial : World → (EventOutcome → Type 0) → (core : ℕ) → Occupant → How → Type 0
AfterSerial w Q c h how = MayAsk w c h how → asks_serial h.chunk (sphere_at w h.chunk.sphere).role ≡ true → first_slot (is_of_sphere h.chunk.sphere) w.slots ≡ None → Q (grant_serial w c h)

abbrev pub AfterDrain : World → (EventOutcome → Type 0) → (slot : ℕ) → Flight → Type 0
AfterDrain w Q k f = at w.slots k ≡ Some f → Q (drain_slot w k (Some f))

-- a live thread that no core runs
abbrev pub AfterPlace : World → (EventOutcome → Type 0) → (core i thread : ℕ) → Parts → Type 0
AfterPlace w Q c i k t = slice_get (sphere_at w i).threads k ≡ Some t → is_live t ≡ true → core_of w i k ≡ None → Q (answered (with_core w c (held_afresh w.numbers i k (sphere_at w i))) Reply.Placed)

abbrev pub AfterRaise : World → (EventOutcome → Type 0) → (i thread value : ℕ) → Parts → Type 0
AfterRaise w Q i k value t = Raises k t (sphere_at w i) → Q (raise_in w i k value t)

-- a DMA that meets no flight
abbrev pub AfterDma : World → (EventOutcome → Type 0) → (i : ℕ) → MovedSphere → Type 0
AfterDma w Q i v = Transfers w i v → is_full w.slots ≡ false → let g = signed i v.words (nothing w.numbers.bits) in first_slot (meets_chunk g g) w.slots ≡ None → Q (dma_done w i g v)

abbrev pub AfterDivergence : World → (EventOutcome → Type 0) → (i : ℕ) → MovedSphere → (commits : ℕ) → Why → Type 0
AfterDivergence w Q i v j why = Transfers w i v → v.outcome ≡ Diverged j why → Q (dma_with w i v (Diverged j why))

-- ---- each event

open_is : (ch : Chunk) → is_open ch ≡ true → ch.closed ≡ None
open_is ch e =
    elim ch.closed as (λ (o : Option How). elim o as (λ (q : Option How). Bool) [ None ↦ true | Some how ↦ false ] ≡ true → o ≡ None) [
      | None ↦ λ h. refl
      | Some how ↦ λ h. absurd (true≢false (sym h))
    ] e

-- a sphere that has a request is one of the spheres
dma_within : (w : World) (i : ℕ) (v : MovedSphere) → dma_moved w.devices (sphere_at w i) ≡ Some v → i < length w.spheres
unfolding dma_moved
dma_within w i v e =
    elim (cases_lt i (length w.spheres)) [
      | inl l ↦ l
      | inr past ↦ absurd (none-some v (ap (λ (p : Sphere). dma_in p.role w.devices p) (sym (get_or_past w.spheres i no_sphere past)) ∙ e))
    ]

-- a predicate of what an event comes to in world w, which holds of every answer alone; no such reply makes a point
module _ (w : World) (Q : EventOutcome → Type 0) (still : (r : Reply) → makes_point r ≡ false → Q (answered w r)) where
  after_closed : (c : ℕ) (h : Occupant) (o : Option Chunk) → at w.cores c ≡ Some h → younger_for w.numbers (sphere_at w h.chunk.sphere).role h h.younger ≡ o → ((y : Chunk) → AfterStepYounger w Q c h y) → Q (step_younger w c h o)
  after_closed c h None is e younger = still Reply.Waiting refl
  after_closed c h (Some y) is e younger =
      let p = sphere_at w h.chunk.sphere in
      branch Q (is_open y) (stepped_younger w c h (step w.numbers.capacity (lays p.memory h.chunk.done.words) w.slots c y)) (answered w Reply.Waiting)
      (λ opened. younger y is e (open_is y opened))
      (λ _. still Reply.Waiting refl)

  held_step : (c : ℕ) (o : Option Occupant) → at w.cores c ≡ o → ((h : Occupant) → AfterStep w Q c h) → ((h : Occupant) (y : Chunk) → AfterStepYounger w Q c h y) → Q (step_held w c o)
  held_step c None is older younger = still Reply.Idle refl
  held_step c (Some h) is older younger =
      let p = sphere_at w h.chunk.sphere in
      let s = step w.numbers.capacity p.memory w.slots c h.chunk in
      let o = younger_for w.numbers p.role h h.younger in
      branch Q (is_stopped p.role) (answered w Reply.Stopped) (cond (is_open h.chunk) (stepped w c h s) (step_younger w c h o))
      (λ _. still Reply.Stopped refl)
      (λ _. branch Q (is_open h.chunk) (stepped w c h s) (step_younger w c h o)
      (λ opened. older h is (open_is h.chunk opened))
      (λ _. after_closed c h o is refl (younger h)))

  -- a step runs an open chunk, the older or the younger
  pub any-step : (c : ℕ) → ((h : Occupant) → AfterStep w Q c h) → ((h : Occupant) (y : Chunk) → AfterStepYounger w Q c h y) → Q (stepping w c)
  unfolding stepping
  any-step c older younger = held_step c (at w.cores c) refl older younger

  cut_either : (c : ℕ) (h : Occupant) (o : Option Chunk) → at w.cores c ≡ Some h → h.younger ≡ o → AfterCut w Q c h → ((y : Chunk) → AfterCutYounger w Q c h y) → Q (cut_in w c h o)
  cut_either c h None is e older younger = older is e
  cut_either c h (Some y) is e older younger = younger y is e

  held_cut : (c : ℕ) (o : Option Occupant) → at w.cores c ≡ o → ((h : Occupant) → AfterCut w Q c h) → ((h : Occupant) (y : Chunk) → AfterCutYounger w Q c h y) → Q (cut_held w c o)
  held_cut c None is older younger = still Reply.Idle refl
  held_cut c (Some h) is older younger =
      branch Q (is_stopped (sphere_at w h.chunk.sphere).role) (answered w Reply.Stopped) (cut_in w c h h.younger)
      (λ _. still Reply.Stopped refl)
      (λ _. cut_either c h h.younger is refl (older h) (younger h))

  -- a cut closes the younger chunk, or the older where there is none
  pub any-cut : (c : ℕ) → ((h : Occupant) → AfterCut w Q c h) → ((h : Occupant) (y : Chunk) → AfterCutYounger w Q c h y) → Q (cutting w c)
  unfolding cutting
  any-cut c older younger = held_cut c (at w.cores c) refl older younger

  denied : (a : EventOutcome) (o : Option ℕ) → (o ≡ None → Q a) → Q (unless_denied (denied_by o) w a)
  denied a None each = each refl
  denied a (Some k) each = still (Reply.Denied k) refl

  busy : (a : EventOutcome) (o : Option ℕ) → (o ≡ None → Q a) → Q (unless_busy (busy_by o) w a)
  busy a None each = each refl
  busy a (Some k) each = still (Reply.SphereBusy k) refl

  at_turn : (a : EventOutcome) (o : Option Actor) → (o ≡ None → Q a) → Q (unless_turn o w a)
  at_turn a None each = each refl
  at_turn a (Some actor) each = still (Reply.NotTurn actor) refl

  arbiter : (c : ℕ) (h : Occupant) (how : How) (serial : Bool) → asks_serial h.chunk (sphere_at w h.chunk.sphere).role ≡ serial → (asks_serial h.chunk (sphere_at w h.chunk.sphere).role ≡ false → first_slot (meets_chunk h.chunk.reads h.chunk.writes) w.slots ≡ None → Q (grant_chunk w c h how))
      → (asks_serial h.chunk (sphere_at w h.chunk.sphere).role ≡ true → first_slot (is_of_sphere h.chunk.sphere) w.slots ≡ None → Q (grant_serial w c h)) → Q (ask_arbiter w c h how serial)
  arbiter c h how true is chunk serial = busy (grant_serial w c h) (first_slot (is_of_sphere h.chunk.sphere) w.slots) (serial is)
  arbiter c h how false is chunk serial = denied (grant_chunk w c h how) (first_slot (meets_chunk h.chunk.reads h.chunk.writes) w.slots) (chunk is)

  -- an ask is granted a chunk that meets no flight, or a serial step of a sphere that none is of
  pub any-closed : (c : ℕ) (h : Occupant) (o : Option How) → at w.cores c ≡ Some h → h.chunk.closed ≡ o
      → ((how : How) → AfterChunk w Q c h how)
      → ((how : How) → AfterSerial w Q c h how) → Q (ask_closed w c h o)
  any-closed c h None is closed chunk serial = still Reply.NotClosed refl
  any-closed c h (Some how) is closed chunk serial =
      let p = sphere_at w h.chunk.sphere in
      let turn = turn_against p (Actor.Thread h.thread) in
      let asked = ask_arbiter w c h how (asks_serial h.chunk p.role) in
      let room = cond (is_full w.slots) (answered w Reply.WindowFull) asked in
      branch Q (is_stopped p.role) (answered w Reply.Stopped) (unless_turn turn w room)
      (λ _. still Reply.Stopped refl)
      (λ going. at_turn room turn
      (λ mine. branch Q (is_full w.slots) (answered w Reply.WindowFull) asked
      (λ _. still Reply.WindowFull refl)
      (λ free.
      let may : MayAsk w c h how = record { is = is; closed = closed; going = going; turn = mine; free = free } in
      arbiter c h how (asks_serial h.chunk p.role) refl (chunk how may) (serial how may))))

  held_ask : (c : ℕ) (o : Option Occupant) → at w.cores c ≡ o
      → ((h : Occupant) (how : How) → AfterChunk w Q c h how)
      → ((h : Occupant) (how : How) → AfterSerial w Q c h how) → Q (ask_held w c o)
  held_ask c None is chunk serial = still Reply.Idle refl
  held_ask c (Some h) is chunk serial = any-closed c h h.chunk.closed is refl (chunk h) (serial h)

  -- an ask, of whatever the core holds
  pub any-ask : (c : ℕ) → ((h : Occupant) (how : How) → AfterChunk w Q c h how)
      → ((h : Occupant) (how : How) → AfterSerial w Q c h how) → Q (asking w c)
  unfolding asking
  any-ask c chunk serial = held_ask c (at w.cores c) refl chunk serial

  slot_drain : (k : ℕ) (o : Option Flight) → at w.slots k ≡ o → ((f : Flight) → AfterDrain w Q k f) → Q (drain_slot w k o)
  slot_drain k None is each = still Reply.NoCommit refl
  slot_drain k (Some f) is each = each f is

  -- a drain is of a flight
  pub any-drain : (k : ℕ) → ((f : Flight) → AfterDrain w Q k f) → Q (draining w k)
  unfolding draining
  any-drain k each = slot_drain k (at w.slots k) refl each

  elsewhere : (a : EventOutcome) (o : Option ℕ) → (o ≡ None → Q a) → Q (unless_elsewhere o w a)
  elsewhere a None each = each refl
  elsewhere a (Some d) each = still (Reply.Elsewhere d) refl

  thread_place : (c i k : ℕ) (o : Option Parts) → slice_get (sphere_at w i).threads k ≡ o
      → ((t : Parts) → AfterPlace w Q c i k t) → Q (place_thread w c i k o)
  thread_place c i k None is each = still Reply.NoThread refl
  thread_place c i k (Some t) is each =
      let placed = answered (with_core w c (held_afresh w.numbers i k (sphere_at w i))) Reply.Placed in
      branch Q (is_live t) (unless_elsewhere (core_of w i k) w placed) (answered w Reply.Ended)
      (λ live. elsewhere placed (core_of w i k) (each t is live))
      (λ _. still Reply.Ended refl)

  -- a live thread is placed that no core runs
  pub any-place : (c i k : ℕ) → ((t : Parts) → AfterPlace w Q c i k t) → Q (placing w c i k)
  unfolding placing
  any-place c i k each = thread_place c i k (slice_get (sphere_at w i).threads k) refl each

  thread_raise : (i k value : ℕ) (o : Option Parts) → slice_get (sphere_at w i).threads k ≡ o → replays (sphere_at w i).role ≡ false → ((t : Parts) → AfterRaise w Q i k value t) → Q (raise_thread w i k value o)
  thread_raise i k value None is role each = still Reply.NoThread refl
  thread_raise i k value (Some t) is role each =
      let raised_ = raise_in w i k value t in
      let masked = cond t.mask (answered w Reply.Masked) raised_ in
      branch Q (is_live t) (cond (has_handler t) masked (answered w Reply.NoHandler)) (answered w Reply.Ended)
      (λ live. branch Q (has_handler t) masked (answered w Reply.NoHandler)
      (λ handler. branch Q t.mask (answered w Reply.Masked) raised_
      (λ _. still Reply.Masked refl)
      (λ mask. each t (record { is = is; live = live; handler = handler; mask = mask; role = role })))
      (λ _. still Reply.NoHandler refl))
      (λ _. still Reply.Ended refl)

  -- a thread is interrupted that takes interrupts
  pub any-raise : (i k value : ℕ) → ((t : Parts) → AfterRaise w Q i k value t) → Q (raising w i k value)
  unfolding raising
  any-raise i k value each =
      let p = sphere_at w i in
      branch Q (replays p.role) (answered w Reply.FromLog) (raise_thread w i k value (slice_get p.threads k))
      (λ _. still Reply.FromLog refl)
      (λ role. thread_raise i k value (slice_get p.threads k) refl role each)

  -- v's stores meet no flight, or v diverges
  module _ (i : ℕ)
      (done : (v : MovedSphere) → AfterDma w Q i v)
      (diverges : (v : MovedSphere) (j : ℕ) (why : Why) → AfterDivergence w Q i v j why) where
    transferred : (v : MovedSphere) → Transfers w i v → Q (transfer w i v)
    unfolding transfer
    transferred v t =
        let g = signed i v.words (nothing w.numbers.bits) in
        branch Q (is_full w.slots) (answered w Reply.WindowFull) (unless_denied (ask g g w.slots) w (dma_done w i g v))
        (λ _. still Reply.WindowFull refl)
        (λ free. denied (dma_done w i g v) (first_slot (meets_chunk g g) w.slots) (done v t free))

    dma_outcome : (v : MovedSphere) (o : CommitOutcome) → Transfers w i v → v.outcome ≡ o → Q (dma_with w i v o)
    dma_outcome v Granted t is = transferred v t
    dma_outcome v Piece t is = transferred v t
    dma_outcome v (Diverged j why) t is = diverges v j why t is

    dma_or_none : (o : Option MovedSphere) → dma_moved w.devices (sphere_at w i) ≡ o → is_stopped (sphere_at w i).role ≡ false → turn_against (sphere_at w i) Actor.Dma ≡ None → Q (dma_if w i o)
    dma_or_none None is going turn = still Reply.NoDma refl
    dma_or_none (Some v) is going turn = dma_outcome v v.outcome (record { within = dma_within w i v is; going = going; turn = turn; is = is }) refl

    -- a DMA is done, or diverges
    pub any-transfer : Q (transferring w i)
    unfolding transferring
    any-transfer =
        let p = sphere_at w i in
        let rest = dma_if w i (dma_moved w.devices p) in
        branch Q (is_stopped p.role) (answered w Reply.Stopped) (unless_turn (turn_against p Actor.Dma) w rest)
        (λ _. still Reply.Stopped refl)
        (λ going. at_turn rest (turn_against p Actor.Dma) (λ turn. dma_or_none (dma_moved w.devices p) refl going turn))

-- ---- any event

-- the predicate holds of all that an event can come to
pub record Cases (w : World) (Q : EventOutcome → Type 0) : Type 0 where
  pub answers : (r : Reply) → makes_point r ≡ false → Q (answered w r)
  pub steps : (c : ℕ) (h : Occupant) → AfterStep w Q c h
  pub youngers : (c : ℕ) (h : Occupant) (y : Chunk) → AfterStepYounger w Q c h y
  pub cuts : (c : ℕ) (h : Occupant) → AfterCut w Q c h
  pub cut_youngers : (c : ℕ) (h : Occupant) (y : Chunk) → AfterCutYounger w Q c h y
  pub chunks : (c : ℕ) (h : Occupant) (how : How) → AfterChunk w Q c h how
  pub serials : (c : ℕ) (h : Occupant) (how : How) → AfterSerial w Q c h how
  pub drains : (k : ℕ) (f : Flight) → AfterDrain w Q k f
  pub delivers : (c k : ℕ) → Q (delivering w c k)
  pub retires : (k : ℕ) → Q (retiring w k)
  pub places : (c i k : ℕ) (t : Parts) → AfterPlace w Q c i k t
  pub raises : (i k value : ℕ) (t : Parts) → AfterRaise w Q i k value t
  pub transfers : (i : ℕ) (v : MovedSphere) → AfterDma w Q i v
  pub diverges : (i : ℕ) (v : MovedSphere) (j : ℕ) (why : Why) → AfterDivergence w Q i v j why

-- and so of what the event comes to
pub any-event : (w : World) (Q : EventOutcome → Type 0) → Cases w Q → (e : Event) → Q (act w e)
unfolding act
any-event w Q each (Event.Step c) = any-step w Q each.answers (core_no w c) (each.steps (core_no w c)) (each.youngers (core_no w c))
any-event w Q each (Event.Cut c) = any-cut w Q each.answers (core_no w c) (each.cuts (core_no w c)) (each.cut_youngers (core_no w c))
any-event w Q each (Event.Ask c) = any-ask w Q each.answers (core_no w c) (each.chunks (core_no w c)) (each.serials (core_no w c))
any-event w Q each (Event.Drain k) = any-drain w Q each.answers (slot_no w k) (each.drains (slot_no w k))
any-event w Q each (Event.Deliver c k) = each.delivers (core_no w c) (slot_no w k)
any-event w Q each (Event.Retire k) = each.retires (slot_no w k)
any-event w Q each (Event.Place c i k) = any-place w Q each.answers (core_no w c) (sphere_no w i) k (each.places (core_no w c) (sphere_no w i) k)
any-event w Q each (Event.Raise i k value) = any-raise w Q each.answers (sphere_no w i) k value (each.raises (sphere_no w i) k value)
any-event w Q each (Event.Dma i) = any-transfer w Q each.answers (sphere_no w i) (each.transfers (sphere_no w i)) (each.diverges (sphere_no w i))
