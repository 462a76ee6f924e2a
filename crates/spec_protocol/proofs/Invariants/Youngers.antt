-- When a younger chunk begins, when a flight hits it alone, and when an interrupt abandons it.
use Rattle.std.proofs.Common.{◌≡◌, ◌≢◌, ◌↔◌, ℕ, ◌<◌, ◌⊎◌, inl, inr, Bool, true, false, not, ◌&&◌, cond, eqb, List, length, set, Option, Some, None, refl, sym, ap, ◌∙◌, subst, arith}
use Rattle.std.specs.Prelude.{nat_lt, option_map, slice_get}
use Rattle.std.proofs.lemmas.Bool.{true≢false, and_from, and_parts, cases_Bool, cases_eq, cases_lt, ltb-true, lt-ltb, not-true}
use Rattle.std.proofs.lemmas.List.{get_or_past}
use Rattle.std.proofs.lemmas.Option.{none-some}
use Rattle.dl_entry.specs.declared.Request.{Request}
use Rattle.dl_entry.specs.declared.Why.{Why}
use Rattle.spec_isa.specs.declared.thread.Parts.{Parts}
use Rattle.spec_isa.specs.Runs.{Run, run}
use Rattle.spec_isa.specs.Words.{lays}
use Rattle.spec_kernel.specs.Devices.{Devices}
use Rattle.spec_kernel.specs.Interrupts.{has_handler, interrupted, is_live, lives, takes_interrupt}
use Rattle.spec_play.specs.Effects.{Effect, chunk_effect, counted}
use Rattle.spec_play.specs.Plays.{with_threads}
use Rattle.spec_play.specs.Progress.{with_interrupt}
use Rattle.spec_play.specs.declared.used.Used.{Used}
use Rattle.spec_play.specs.Verdicts.{Fails, Goes, chunk_verdict, chunk_why, interrupt_at, unless, with_interrupted}
use Rattle.spec_log.specs.Size.{size_in}
use Rattle.dl_entry.specs.declared.Actor.{Actor}
use Rattle.spec_play.proofs.Threads.{branch, run-status}
use Rattle.spec_engine.specs.declared.answers.Deliver.{Deliver}
use Rattle.spec_engine.specs.declared.answers.How.{How}
use Rattle.spec_engine.specs.Closing.{is_piece, is_short}
use Rattle.spec_engine.specs.Flights.{Delivered, Flight, at, deliver, first_slot, meets_chunk, tell, told_at}
use Rattle.spec_engine.specs.Chunks.{Chunk, cut, is_empty_serial, is_open, is_serial, may_follow, squash, step}
use Rattle.spec_engine.specs.Signatures.{Signature, nothing, signed}
use Rattle.spec_protocol.specs.declared.event.Event.{Event}
use Rattle.spec_protocol.specs.declared.reply.Reply.{Reply}
use Rattle.spec_sphere.specs.sphere.Spheres.{Cursor, Plain, Record, Replay, Role, Sphere, is_in_pieces, is_stopped, replays}
use Rattle.spec_sphere.specs.sphere.Commits.{CommitOutcome, Diverged, Granted, MovedSphere, Piece, by_verdict, chunk_in, chunk_moved, joined, serial_moved}
use Rattle.spec_protocol.specs.machine.World.{EventOutcome, Numbers, Occupant, World, answered, core_of, held_afresh, moment, sphere_at, thread_afresh, with_core, with_slot, with_sphere}
use Rattle.spec_protocol.specs.machine.Stepping.{step_held, step_younger, stepped, stepped_younger, stepping, younger_afresh, younger_for}
use Rattle.spec_protocol.specs.machine.Asking.{CommitRequest, asking, asks_serial, chunk_request, goes_on_with, grant_chunk, grant_serial, granted, promoted, serial_request, was_interrupted}
use Rattle.spec_protocol.specs.machine.Flying.{deliver_to, delivering, hits_younger, retiring, squashed, squashed_younger, told}
use Rattle.spec_protocol.specs.machine.Placing.{raise_in, with_renewed}
use Rattle.spec_protocol.specs.machine.Machine.{Setup, act, core_no, happens, slot_no, sphere_no}
use Rattle.spec_protocol.specs.promises.Currency.{IsCurrent}
use Rattle.spec_protocol.specs.promises.Invariants.{IsGood, IsGoodHeld, current}
use Rattle.spec_protocol.specs.promises.Promises.{IsSetup, after}
use Rattle.spec_protocol.specs.promises.Replying.{makes_point}
use Rattle.spec_protocol.specs.promises.Youngers.{Begins, HasTwo, HitsSpareTheOlder, HitsYounger, InterruptsAbandon, YoungersBegin, interrupt_after}
use Rattle.spec_protocol.proofs.Memory.Slots.{at-set_other, at-set_same}
use Rattle.spec_protocol.proofs.Moves.AnyEvent.{any-ask, any-cut, any-drain, any-place, any-raise, any-step, any-transfer}
use Rattle.spec_protocol.proofs.Invariants.Cores.{set-cases}
use Rattle.spec_protocol.proofs.Invariants.Asks.{chunk_live}
use Rattle.spec_protocol.proofs.Invariants.Schedules.{invariants_hold}
use Rattle.spec_sphere.proofs.Moves.Granted.{get-append}
use Rattle.spec_strata.proofs.Shares.Steps.{get-set_same}

same-some : {A : Type 0} (x y : A) → Some x ≡ Some y → x ≡ y
same-some x y e = cc

within : {A : Type 0} (xs : List (Option A)) (k : ℕ) (x : A) → at xs k ≡ Some x → k < length xs
within xs k x is =
    elim (cases_lt k (length xs)) [
      | inl l ↦ l
      | inr past ↦ absurd (none-some x (sym (get_or_past xs k None past) ∙ is))
    ]

-- ---- no younger chunk begins with another event

afresh-alone : (z : Numbers) (i k : ℕ) (p : Sphere) (o : Option Parts) (g : Occupant) → thread_afresh z i k p o ≡ Some g → g.younger ≡ None
afresh-alone z i k p None g e = absurd (none-some g e)
afresh-alone z i k p (Some t) g e =
    branch (λ (r : Option Occupant). r ≡ Some g → g.younger ≡ None) (is_live t) _ None
    (λ _ r. ap (λ (x : Occupant). x.younger) (sym (same-some _ g r)))
    (λ _ r. absurd (none-some g r)) e

promoted-alone : (z : Numbers) (i k : ℕ) (p : Sphere) (y : Option Chunk) (o : Option Parts) (g : Occupant) → promoted z i k p y o ≡ Some g → g.younger ≡ None
promoted-alone z i k p None o g e = afresh-alone z i k p o g e
promoted-alone z i k p (Some y) None g e = absurd (none-some g e)
promoted-alone z i k p (Some y) (Some t) g e =
    branch (λ (r : Option Occupant). r ≡ Some g → g.younger ≡ None) (is_live t && not (was_interrupted y t)) _ (thread_afresh z i k p (Some t))
    (λ _ r. ap (λ (x : Occupant). x.younger) (sym (same-some _ g r)))
    (λ _ r. afresh-alone z i k p (Some t) g r) e

squashed-alone : (o : Option Occupant) (g : Occupant) → squashed o ≡ Some g → g.younger ≡ None
squashed-alone None g e = absurd (none-some g e)
squashed-alone (Some h) g e = ap (λ (x : Occupant). x.younger) (sym (same-some _ g e))

-- what core c of world w holds has no younger chunk
abbrev IsAloneAt : ℕ → World → Type 0
IsAloneAt c w = (g : Occupant) → at w.cores c ≡ Some g → g.younger ≡ None

not-two : (w : World) (c : ℕ) → IsAloneAt c w → HasTwo w c → ⊥
not-two w c alone t = none-some t.younger (sym (alone t.held t.there) ∙ t.is)

-- core d of the world w holds one chunk
module _ (w : World) (d : ℕ) (alone : IsAloneAt d w) where
  abbrev Stays : EventOutcome → Type 0
  Stays a = IsAloneAt d a.world

  set-alone : (c : ℕ) (o : Option Occupant) → ((g : Occupant) → o ≡ Some g → c ≡ d → g.younger ≡ None) → (g : Occupant) → at (set w.cores c o) d ≡ Some g → g.younger ≡ None
  set-alone c o new g there =
      elim (set-cases w.cores c d o g there) [
        | inl p ↦ new g p.1 (sym p.0)
        | inr p ↦ alone g p.1
      ]

  same-core : (c : ℕ) (h : Occupant) → at w.cores c ≡ Some h → c ≡ d → h.younger ≡ None
  same-core c h is same = alone h (ap (at w.cores) (sym same) ∙ is)

  granted-stays : (c : ℕ) (q : CommitRequest) (writes : Signature) (v : MovedSphere) (o : CommitOutcome) → Stays (granted w c q writes v o)
  granted-stays c q writes v Granted = set-alone c _ (λ g e same. promoted-alone w.numbers q.sphere q.thread v.sphere q.younger (slice_get v.sphere.threads q.thread) g e)
  granted-stays c q writes v Piece = set-alone c _ (λ g e same. promoted-alone w.numbers q.sphere q.thread v.sphere q.younger (slice_get v.sphere.threads q.thread) g e)
  granted-stays c q writes v (Diverged i why) = alone

  chunk-stays : (c : ℕ) (h : Occupant) (how : How) → Stays (grant_chunk w c h how)
  unfolding grant_chunk
  chunk-stays c h how = granted-stays c (chunk_request w h how) h.chunk.writes (chunk_moved h.thread (is_piece how) (is_short w.numbers.s how h.chunk.limit) h.chunk.done w.devices (sphere_at w h.chunk.sphere)) _

  serial-stays : (c : ℕ) (h : Occupant) → Stays (grant_serial w c h)
  unfolding grant_serial
  serial-stays c h = granted-stays c (serial_request h) _ (serial_moved h.thread (moment w) h.chunk.start w.devices (sphere_at w h.chunk.sphere)) _

  younger-none : (c : ℕ) (held : Option Occupant) (g : Occupant) → at w.cores c ≡ held → c ≡ d → squashed_younger held ≡ Some g → g.younger ≡ None
  younger-none c None g is same e = absurd (none-some g e)
  younger-none c (Some h) g is same e =
      ap (λ (x : Occupant). x.younger) (sym (same-some _ g e)) ∙ ap (option_map squash) (same-core c h is same)

  told-stays : (c k : ℕ) (slot : Option Flight) (held : Option Occupant) (r : Deliver) (hit : Bool) → at w.cores c ≡ held → Stays (told (with_slot w k slot) c held r hit)
  told-stays c k slot held Deliver.NoCommit hit is = alone
  told-stays c k slot held Deliver.Already hit is = alone
  told-stays c k slot held Deliver.Squashed hit is = set-alone c (squashed held) (λ g e same. squashed-alone held g e)
  told-stays c k slot held Deliver.Delivered true is = set-alone c (squashed_younger held) (λ g e same. younger-none c held g is same e)
  told-stays c k slot held Deliver.Delivered false is = alone

  deliver-stays : (c k : ℕ) → Stays (delivering w c k)
  unfolding delivering
  deliver-stays c k = told-stays c k _ (at w.cores c) _ _ refl

  retire-stays : (k : ℕ) → Stays (retiring w k)
  unfolding retiring
  retire-stays k = alone

  renewed-stays : (i k : ℕ) (p : Sphere) (o : Option ℕ) → IsAloneAt d (with_renewed (with_sphere w i p) i k o)
  renewed-stays i k p None = alone
  renewed-stays i k p (Some c) = set-alone c _ (λ g e same. afresh-alone w.numbers i k (sphere_at (with_sphere w i p) i) (slice_get (sphere_at (with_sphere w i p) i).threads k) g e)

  raise-stays : (i k value : ℕ) (t : Parts) → Stays (raise_in w i k value t)
  raise-stays i k value t = renewed-stays i k _ (core_of w i k)

  -- no event but a step of the core begins one
  no-other : (e : Event) → ((c : ℕ) → e ≡ Event.Step c → core_no w c ≢ d) → Stays (act w e)
  unfolding act
  no-other (Event.Step c) other =
      any-step w Stays (λ r none. alone) (core_no w c)
      (λ h is opened. set-alone (core_no w c) _ (λ g e same. absurd (other c refl same)))
      (λ h y is e opened. set-alone (core_no w c) _ (λ g f same. absurd (other c refl same)))
  no-other (Event.Cut c) other =
      any-cut w Stays (λ r none. alone) (core_no w c)
      (λ h is none. set-alone (core_no w c) _ (λ g e same. ap (λ (x : Occupant). x.younger) (sym (same-some _ g e)) ∙ none))
      (λ h y is some. set-alone (core_no w c) _ (λ g e same. absurd (none-some y (sym (same-core (core_no w c) h is same) ∙ some))))
  no-other (Event.Ask c) other = any-ask w Stays (λ r none. alone) (core_no w c) (λ h how may chunk none. chunk-stays (core_no w c) h how) (λ h how may serial none. serial-stays (core_no w c) h)
  no-other (Event.Drain k) other = any-drain w Stays (λ r none. alone) (slot_no w k) (λ f is. alone)
  no-other (Event.Deliver c k) other = deliver-stays (core_no w c) (slot_no w k)
  no-other (Event.Retire k) other = retire-stays (slot_no w k)
  no-other (Event.Place c i k) other = any-place w Stays (λ r none. alone) (core_no w c) (sphere_no w i) k (λ t is live none. set-alone (core_no w c) _ (λ g e same. afresh-alone w.numbers (sphere_no w i) k (sphere_at w (sphere_no w i)) (slice_get (sphere_at w (sphere_no w i)).threads k) g e))
  no-other (Event.Raise i k value) other = any-raise w Stays (λ r none. alone) (sphere_no w i) k value (λ t raises. raise-stays (sphere_no w i) k value t)
  no-other (Event.Dma i) other = any-transfer w Stays (λ r none. alone) (sphere_no w i) (λ v t free none. alone) (λ v j why t is. alone)

-- ---- a step

-- what a step asks for to begin a younger chunk behind h
record MayBegin (w : World) (h : Occupant) : Type 0 where
  deep : 1 < w.numbers.depth
  going : is_stopped (sphere_at w h.chunk.sphere).role ≡ false
  allowed : may_follow (replays (sphere_at w h.chunk.sphere).role) h.chunk.closed ≡ true

closed-so : (b : Bool) (o : Option How) → may_follow b o ≡ true → elim o as (λ (q : Option How). Bool) [ None ↦ true | Some how ↦ false ] ≡ false
closed-so b None e = absurd (true≢false (sym e))
closed-so b (Some how) e = refl

module _ (w : World) (d : ℕ) (h : Occupant) (is : at w.cores d ≡ Some h) (none : h.younger ≡ None) where
  alone-at : IsAloneAt d w
  alone-at g there = ap (λ (x : Occupant). x.younger) (same-some g h (sym there ∙ is)) ∙ none

  abbrev p_of : Sphere
  p_of = sphere_at w h.chunk.sphere

  abbrev allowed_of : Bool
  allowed_of = may_follow (replays p_of.role) h.chunk.closed

  abbrev Tells : EventOutcome → Type 0
  Tells a = HasTwo a.world d → MayBegin w h

  one-still : HasTwo w d → MayBegin w h
  one-still t = absurd (not-two w d alone-at t)

  begun-if : is_stopped p_of.role ≡ false → Tells (step_younger w d h (younger_for w.numbers p_of.role h None))
  begun-if going =
      branch (λ (o : Option Chunk). Tells (step_younger w d h o)) (nat_lt 1 w.numbers.depth && allowed_of) (Some (younger_afresh w.numbers p_of.role h)) None
      (λ both t. let a = and_parts (nat_lt 1 w.numbers.depth) allowed_of both in record { deep = ltb-true 1 w.numbers.depth a.0; going = going; allowed = a.1 })
      (λ _ t. one-still t)

  step-tells : Tells (step_held w d (Some h))
  step-tells =
      let s = step w.numbers.capacity p_of.memory w.slots d h.chunk in
      let y = step_younger w d h (younger_for w.numbers p_of.role h h.younger) in
      branch Tells (is_stopped p_of.role) (answered w Reply.Stopped) (cond (is_open h.chunk) (stepped w d h s) y)
      (λ _ t. one-still t)
      (λ going. branch Tells (is_open h.chunk) (stepped w d h s) y
      (λ _ t. absurd (not-two (stepped w d h s).world d (set-alone w d alone-at d _ (λ g e same. ap (λ (x : Occupant). x.younger) (sym (same-some _ g e)) ∙ none)) t))
      (λ _. subst (λ (o : Option Chunk). Tells (step_younger w d h (younger_for w.numbers p_of.role h o))) (sym none) (begun-if going)))

  -- a step of the core tells that it may begin one
  step-may : HasTwo (stepping w d).world d → MayBegin w h
  unfolding stepping
  step-may = subst (λ (o : Option Occupant). Tells (step_held w d o)) (sym is) step-tells

  step-done : MayBegin w h → HasTwo (step_held w d (Some h)).world d
  step-done may =
      let s = step w.numbers.capacity p_of.memory w.slots d h.chunk in
      let fresh_ : Chunk = younger_afresh w.numbers p_of.role h in
      let n = step w.numbers.capacity (lays p_of.memory h.chunk.done.words) w.slots d fresh_ in
      let closed : is_open h.chunk ≡ false = closed-so (replays p_of.role) h.chunk.closed may.allowed in
      let both = and_from (nat_lt 1 w.numbers.depth) allowed_of (lt-ltb 1 w.numbers.depth may.deep) may.allowed in
      let begins : younger_for w.numbers p_of.role h h.younger ≡ Some fresh_ =
      ap (younger_for w.numbers p_of.role h) none ∙ ap (λ (b : Bool). cond b (Some fresh_) None) both in
      let outcome : step_held w d (Some h) ≡ stepped_younger w d h n =
      ap (λ (b : Bool). cond b (answered w Reply.Stopped) (cond (is_open h.chunk) (stepped w d h s) (step_younger w d h (younger_for w.numbers p_of.role h h.younger)))) may.going
      ∙ ap (λ (b : Bool). cond b (stepped w d h s) (step_younger w d h (younger_for w.numbers p_of.role h h.younger))) closed
      ∙ ap (step_younger w d h) begins in
      subst (λ (a : EventOutcome). HasTwo a.world d) (sym outcome)
      (record { held = record h { younger = Some n.chunk }; there = at-set_same w.cores d _ (within w.cores d h is); younger = n.chunk; is = refl })

  -- and a step that may begin one does
  step-begins : MayBegin w h → HasTwo (stepping w d).world d
  unfolding stepping
  step-begins may = subst (λ (o : Option Occupant). HasTwo (step_held w d o).world d) (sym is) (step-done may)

  begins-by : (c : ℕ) → core_no w c ≡ d → MayBegin w h → Begins w (Event.Step c) d h
  begins-by c number may = record { core = c; step = refl; number = number; deep = may.deep; going = may.going; allowed = may.allowed }

  tells-step : (c : ℕ) → HasTwo (act w (Event.Step c)).world d → Begins w (Event.Step c) d h
  unfolding act
  tells-step c t =
      elim (cases_eq (core_no w c) d) [
        | inl same ↦ begins-by c same (step-may (subst (λ (b : ℕ). HasTwo (stepping w b).world d) same t))
        | inr ne ↦ absurd (not-two _ d (no-other w d alone-at (Event.Step c) (λ b e. subst (λ (x : ℕ). core_no w x ≢ d) (same-step c b e) ne)) t)
      ]
    where
      same-step : (a b : ℕ) → Event.Step a ≡ Event.Step b → a ≡ b
      same-step a b e = cc

  never : (e : Event) → ((c : ℕ) → e ≡ Event.Step c → ⊥) → HasTwo (act w e).world d → Begins w e d h
  never e other t = absurd (not-two (act w e).world d (no-other w d alone-at e (λ c is_step same. other c is_step)) t)

  two-told : (e : Event) → HasTwo (act w e).world d → Begins w e d h
  two-told (Event.Step c) t = tells-step c t
  two-told (Event.Cut c) t = never (Event.Cut c) (λ b e. cc) t
  two-told (Event.Ask c) t = never (Event.Ask c) (λ b e. cc) t
  two-told (Event.Drain k) t = never (Event.Drain k) (λ b e. cc) t
  two-told (Event.Deliver c k) t = never (Event.Deliver c k) (λ b e. cc) t
  two-told (Event.Retire k) t = never (Event.Retire k) (λ b e. cc) t
  two-told (Event.Place c i k) t = never (Event.Place c i k) (λ b e. cc) t
  two-told (Event.Raise i k value) t = never (Event.Raise i k value) (λ b e. cc) t
  two-told (Event.Dma i) t = never (Event.Dma i) (λ b e. cc) t

  step-two : (c : ℕ) → core_no w c ≡ d → MayBegin w h → HasTwo (act w (Event.Step c)).world d
  unfolding act
  step-two c number may = subst (λ (b : ℕ). HasTwo (stepping w b).world d) (sym number) (step-begins may)

  told-two : (e : Event) → Begins w e d h → HasTwo (act w e).world d
  told-two e b =
      subst (λ (x : Event). HasTwo (act w x).world d) (sym b.step)
      (step-two b.core b.number (record { deep = b.deep; going = b.going; allowed = b.allowed }))

  as-acted : (e : Event) → HasTwo (happens w e).world d → HasTwo (act w e).world d
  unfolding happens
  as-acted e t = record { held = t.held; there = t.there; younger = t.younger; is = t.is }

  as-happened : (e : Event) → HasTwo (act w e).world d → HasTwo (happens w e).world d
  unfolding happens
  as-happened e t = record { held = t.held; there = t.there; younger = t.younger; is = t.is }

-- a core that holds one chunk holds two after an event exactly if that is a step which begins the younger
pub youngers_begin : YoungersBegin
youngers_begin w e d h is none = ((λ t. two-told w d h is none e (as-acted w d h is none e t)), (λ b. as-happened w d h is none e (told-two w d h is none e b)))

-- ---- a hit

hit-outcome : (w : World) (c k : ℕ) (h : Occupant) (y : Chunk) → (x : HitsYounger w c k h y)
    → delivering w c k ≡ answered (with_core (with_slot w k (Some (tell x.flight c))) c (Some (record h { younger = Some (squash y) }))) Reply.Squashed
unfolding delivering
hit-outcome w c k h y x =
    let f : Flight = x.flight in
    let reads = h.chunk.reads in
    let writes = h.chunk.writes in
    let slot : Option Flight = Some (tell f c) in
    let after_ : Delivered → Bool → EventOutcome = λ r hit. told (with_slot w k r.slot) c (Some h) r.reply hit in
    ap (deliver_to w c k) x.there
    ∙ ap (λ (o : Option Flight). after_ (deliver c reads writes o) (hits_younger o h.younger)) x.flies
    ∙ ap (λ (b : Bool). after_ (cond b (record { reply = Deliver.Already; slot = Some f }) (record { reply = cond (meets_chunk reads writes f) Deliver.Squashed Deliver.Delivered; slot = slot })) (hits_younger (Some f) h.younger)) x.untold
    ∙ ap (λ (b : Bool). after_ (record { reply = cond b Deliver.Squashed Deliver.Delivered; slot = slot }) (hits_younger (Some f) h.younger)) x.misses
    ∙ ap (λ (b : Bool). after_ (record { reply = Deliver.Delivered; slot = slot }) b) (ap (hits_younger (Some f)) x.younger ∙ x.hits)
    ∙ ap (λ (o : Option Chunk). answered (with_core (with_slot w k slot) c (Some (record h { younger = option_map squash o }))) Reply.Squashed) x.younger

-- a flight that hits only the younger chunk makes it begin again; the older stays as it is
pub hits_spare : HitsSpareTheOlder
unfolding happens act
hits_spare w c k h y x =
    let e = hit-outcome w (core_no w c) (slot_no w k) h y x in (
      ap (λ (a : EventOutcome). a.reply) e,
      ap (λ (a : EventOutcome). at a.world.cores (core_no w c)) e ∙ at-set_same w.cores (core_no w c) _ (within w.cores (core_no w c) h x.there),
    )

-- ---- an interrupt

-- a thread after a commit that left it so, where the log may have an interrupt
record LeftBy (value : Option ℕ) (t : Parts) (ts : List Parts) (k : ℕ) : Type 0 where
  left : Parts
  there : slice_get ts k ≡ Some left
  so : ((value ≡ None) × (left ≡ t)) ⊎ ((n : ℕ) × (value ≡ Some n) × (takes_interrupt t ≡ true) × (left ≡ interrupted n t))

put : (k : ℕ) (e : Effect) (ts : List Parts) (u : Parts) → slice_get ts k ≡ Some u → slice_get (with_threads k e ts) k ≡ Some e.thread
put k e ts u is = get-append _ e.spawned k e.thread (get-set_same ts k e.thread u is)

-- thread k of the sphere p, which was u, commits the run r
module _ (k : ℕ) (r : Run) (devices : Devices) (p : Sphere) (u : Parts) (is : slice_get p.threads k ≡ Some u) where
  goes-left : (b : Cursor) (e : Effect) (used : Used) (o : Option ℕ) → (by_verdict b k (with_interrupted o e used) devices p).outcome ≡ Granted
      → LeftBy o e.thread (by_verdict b k (with_interrupted o e used) devices p).sphere.threads k
  goes-left b e used None granted_ = record { left = e.thread; there = put k e p.threads u is; so = inl (refl, refl) }
  goes-left b e used (Some n) granted_ =
      let f : Effect = record e { thread = interrupted n e.thread } in
      branch (λ (v : _). (by_verdict b k v devices p).outcome ≡ Granted → LeftBy (Some n) e.thread (by_verdict b k v devices p).sphere.threads k)
      (takes_interrupt e.thread) (Goes f (with_interrupt used)) (Fails Why.Interrupt)
      (λ takes _. record { left = interrupted n e.thread; there = put k f p.threads u is; so = inr (n, refl, takes, refl) })
      (λ _ bad. let g : Diverged _ Why.Interrupt ≡ Granted = bad in cc)
      granted_

  verdict-left : (b : Cursor) (e : Effect) (used : Used) (why : Option Why) (o : Option ℕ) → (by_verdict b k (unless why (with_interrupted o e used)) devices p).outcome ≡ Granted
      → LeftBy o e.thread (by_verdict b k (unless why (with_interrupted o e used)) devices p).sphere.threads k
  verdict-left b e used None o granted_ = goes-left b e used o granted_
  verdict-left b e used (Some why) o granted_ = let g : Diverged _ why ≡ Granted = granted_ in cc

  whole-left : (b : Cursor) → (by_verdict b k (chunk_verdict b.log p.progress b.used k (joined b r)) devices p).outcome ≡ Granted
      → LeftBy (interrupt_at b.log.interrupts k (counted r.thread).commits) (counted r.thread) (by_verdict b k (chunk_verdict b.log p.progress b.used k (joined b r)) devices p).sphere.threads k
  unfolding chunk_verdict
  whole-left b granted_ =
      verdict-left b (chunk_effect k p.progress.request (joined b r)) b.used (chunk_why (size_in b.log (Actor.Thread k) r.thread.commits) (joined b r).n)
      (interrupt_at b.log.interrupts k (counted r.thread).commits) granted_

  chunk-left : (role : Role) (ch : Chunk) (piece short : Bool) → ch.done ≡ r → (chunk_in role k piece short r devices p).outcome ≡ Granted
      → LeftBy (interrupt_after role k ch) (counted r.thread) (chunk_in role k piece short r devices p).sphere.threads k
  chunk-left Plain ch piece short same granted_ = record { left = counted r.thread; there = put k (chunk_effect k p.progress.request r) p.threads u is; so = inl (refl, refl) }
  chunk-left (Record recording) ch piece short same granted_ = record { left = counted r.thread; there = put k (chunk_effect k p.progress.request r) p.threads u is; so = inl (refl, refl) }
  chunk-left (Replay b) ch true short same granted_ = let g : Piece ≡ Granted = granted_ in cc
  chunk-left (Replay b) ch false short same granted_ =
      subst (λ (x : Run). LeftBy (interrupt_at b.log.interrupts k (counted x.thread).commits) (counted r.thread) (chunk_in (Replay b) k false short r devices p).sphere.threads k) (sym same) (whole-left b granted_)

  moved-left : (ch : Chunk) (piece short : Bool) → ch.done ≡ r → (chunk_moved k piece short r devices p).outcome ≡ Granted
      → LeftBy (interrupt_after p.role k ch) (counted r.thread) (chunk_moved k piece short r devices p).sphere.threads k
  unfolding chunk_moved
  moved-left ch piece short same granted_ = chunk-left p.role ch piece short same granted_

not-itself : (b : Bool) → (b && not b) ≡ false
not-itself true = refl
not-itself false = refl

unmasked : (t : Parts) → takes_interrupt t ≡ true → t.mask ≡ false
unmasked t e = not-true t.mask (and_parts (is_live t && has_handler t) (not t.mask) e).1

-- the younger chunk y began as the commit leaves its thread, unless that takes an interrupt
kept-so : (z : Numbers) (i k : ℕ) (p : Sphere) (y : Chunk) (t : Parts) (value : Option ℕ) → y.start ≡ t → is_live t ≡ true → LeftBy value t p.threads k
    → (promoted z i k p (Some y) (slice_get p.threads k) ≡ Some (record { thread = k; chunk = y; younger = None })) ↔ (value ≡ None)
kept-so z i k p y t value start live left =
    let u : Parts = left.left in
    let kept : Occupant = record { thread = k; chunk = y; younger = None } in
    let there : promoted z i k p (Some y) (slice_get p.threads k) ≡ promoted z i k p (Some y) (Some u) = ap (promoted z i k p (Some y)) left.there in
    elim left.so [
      | inl h ↦ (
          let same : u.mask ≡ y.start.mask = ap (λ (x : Parts). x.mask) (h.1 ∙ sym start) in
          let untaken : was_interrupted y u ≡ false = ap (λ (b : Bool). b && not y.start.mask) same ∙ not-itself y.start.mask in
          let lives_ : is_live u ≡ true = ap is_live h.1 ∙ live in
          let both : (is_live u && not (was_interrupted y u)) ≡ true = and_from (is_live u) (not (was_interrupted y u)) lives_ (ap not untaken) in
          let stays : promoted z i k p (Some y) (slice_get p.threads k) ≡ Some kept =
          there ∙ ap (λ (b : Bool). cond b (Some kept) (thread_afresh z i k p (Some u))) both in
          ((λ _. h.0), (λ _. stays))
          )
      | inr h ↦ (
          let mask : u.mask ≡ true = ap (λ (x : Parts). x.mask) h.3 in
          let was : y.start.mask ≡ false = ap (λ (x : Parts). x.mask) start ∙ unmasked t h.2 in
          let other : thread_afresh z i k p (Some u) ≡ Some kept → ⊥ =
          (λ e. branch (λ (o : Option Occupant). o ≡ Some kept → ⊥) (is_live u) _ None
          (λ _ f. true≢false (sym mask ∙ ap (λ (x : Occupant). x.chunk.start.mask) (same-some _ kept f) ∙ was))
          (λ _ f. none-some kept f) e) in
          let taken : was_interrupted y u ≡ true = and_from u.mask (not y.start.mask) mask (ap not was) in
          let gone : promoted z i k p (Some y) (Some u) ≡ Some kept → ⊥ =
          (λ e. branch (λ (o : Option Occupant). o ≡ Some kept → ⊥) (is_live u && not (was_interrupted y u)) (Some kept) (thread_afresh z i k p (Some u))
          (λ both _. true≢false (sym taken ∙ not-true (was_interrupted y u) (and_parts (is_live u) (not (was_interrupted y u)) both).1))
          (λ _ f. other f) e) in
          ((λ e. absurd (gone (sym there ∙ e))), (λ e. absurd (none-some h.0 (sym e ∙ h.1))))
          )
    ]

no-serial : (b : Bool) (o : Option How) → is_serial o ≡ true → may_follow b o ≡ true → ⊥
no-serial b None e f = true≢false (sym e)
no-serial b (Some How.Limit) e f = true≢false (sym e)
no-serial b (Some How.Serial) e f = true≢false (sym f)
no-serial b (Some How.Overflow) e f = true≢false (sym e)
no-serial b (Some How.Cut) e f = true≢false (sym e)

module _ (w : World) (d : ℕ) (h : Occupant) (y : Chunk) (good : IsGood w) (is : at w.cores d ≡ Some h) (younger : h.younger ≡ Some y) where
  abbrev sphere_of : Sphere
  sphere_of = sphere_at w h.chunk.sphere

  abbrev kept_of : Option Occupant
  kept_of = Some (record { thread = h.thread; chunk = y; younger = None })

  abbrev Abandons : EventOutcome → Type 0
  Abandons a = a.reply ≡ Reply.Granted → (at a.world.cores d ≡ kept_of) ↔ (interrupt_after sphere_of.role h.thread h.chunk ≡ None)

  held-good : IsGoodHeld w d h
  held-good = good.held d h is

  -- the thread lives after the chunk
  lives-on : first_slot (meets_chunk h.chunk.reads h.chunk.writes) w.slots ≡ None → is_live (counted h.chunk.done.thread) ≡ true
  lives-on clear =
      let m : List ℕ = current w h.chunk.sphere in
      let now : IsCurrent m h.chunk = chunk_live w d h held-good clear in
      ap lives (ap (λ (x : Run). x.thread.status) (sym now.runs) ∙ run-status m h.chunk.start h.chunk.done.n) ∙ held-good.thread.lives

  granted-so : (how : How) (o : CommitOutcome) → let v = chunk_moved h.thread (is_piece how) (is_short w.numbers.s how h.chunk.limit) h.chunk.done w.devices sphere_of in
      v.outcome ≡ o → first_slot (meets_chunk h.chunk.reads h.chunk.writes) w.slots ≡ None → Abandons (granted w d (chunk_request w h how) h.chunk.writes v o)
  granted-so how Granted so clear e =
      let v = chunk_moved h.thread (is_piece how) (is_short w.numbers.s how h.chunk.limit) h.chunk.done w.devices sphere_of in
      let b = held-good.follows y younger in
      let left = moved-left h.thread h.chunk.done w.devices sphere_of h.chunk.start held-good.thread.start h.chunk (is_piece how) (is_short w.numbers.s how h.chunk.limit) refl so in
      let kept = kept-so w.numbers h.chunk.sphere h.thread v.sphere y (counted h.chunk.done.thread) (interrupt_after sphere_of.role h.thread h.chunk) b.start (lives-on clear) left in
      let goes : at (set w.cores d (goes_on_with w.numbers (chunk_request w h how) v.sphere)) d ≡ promoted w.numbers h.chunk.sphere h.thread v.sphere (Some y) (slice_get v.sphere.threads h.thread) =
      at-set_same w.cores d _ (within w.cores d h is) ∙ ap (λ (x : Option Chunk). promoted w.numbers h.chunk.sphere h.thread v.sphere x (slice_get v.sphere.threads h.thread)) younger in
      ((λ f. kept.0 (sym goes ∙ f)), (λ f. goes ∙ kept.1 f))
  granted-so how Piece so clear e = let f : Reply.Piece ≡ Reply.Granted = e in cc
  granted-so how (Diverged i why) so clear e = let f : Reply.Diverged i why ≡ Reply.Granted = e in cc

  chunk-so : (how : How) → first_slot (meets_chunk h.chunk.reads h.chunk.writes) w.slots ≡ None → Abandons (grant_chunk w d h how)
  unfolding grant_chunk
  chunk-so how clear = granted-so how _ refl clear

  serial-so : asks_serial h.chunk sphere_of.role ≡ true → ⊥
  serial-so serial =
      let empty = (and_parts (is_empty_serial h.chunk) (not (is_in_pieces sphere_of.role)) serial).0 in
      no-serial (replays sphere_of.role) h.chunk.closed (and_parts (eqb h.chunk.done.n 0) (is_serial h.chunk.closed) empty).1 (held-good.follows y younger).allowed

  ask-so : (c : ℕ) → core_no w c ≡ d → Abandons (act w (Event.Ask c))
  unfolding act
  ask-so c number =
      subst (λ (b : ℕ). Abandons (asking w b)) (sym number)
      (any-ask w Abandons (λ r none e. absurd (true≢false (ap makes_point (sym e) ∙ none))) d
      (λ x how may chunk clear. subst (λ (g : Occupant). first_slot (meets_chunk g.chunk.reads g.chunk.writes) w.slots ≡ None → Abandons (grant_chunk w d g how)) (same-some h x (sym is ∙ may.is)) (chunk-so how) clear)
      (λ x how may serial free. absurd (serial-so (subst (λ (g : Occupant). asks_serial g.chunk (sphere_at w g.chunk.sphere).role ≡ true) (same-some x h (sym may.is ∙ is)) serial))))

  as-asked : (c : ℕ) → Abandons (act w (Event.Ask c)) → Abandons (happens w (Event.Ask c))
  unfolding happens
  as-asked c a = a

-- after a granted ask the younger chunk is kept exactly if no interrupt of a log was taken
pub interrupts_abandon : InterruptsAbandon
interrupts_abandon s es c h y setup is younger =
    let w = after s es in
    as-asked w (core_no w c) h y (invariants_hold s es setup) is younger c (ask-so w (core_no w c) h y (invariants_hold s es setup) is younger c refl)
