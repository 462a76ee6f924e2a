-- If there is a flight, or a thread is on no core, the next event of finishing is done and reduces what is left.
use Rattle.std.proofs.Common.{◌≡◌, ℕ, ◌<◌, true, List, [], ◌∷◌, length, Option, Some, None, refl, sym, ap, ◌∙◌, subst, arith, Bool, false}
use Rattle.std.proofs.Math.Nat.{mod-eq_of_lt}
use Rattle.dl_entry.specs.declared.Actor.{Actor}
use Rattle.spec_isa.specs.Words.{Stored}
use Rattle.spec_engine.specs.declared.answers.Deliver.{Deliver}
use Rattle.spec_engine.specs.Flights.{Flight, at, deliver}
use Rattle.spec_protocol.specs.declared.event.Event.{Event}
use Rattle.spec_protocol.specs.machine.World.{World, Occupant, EventOutcome, with_slot, core_of}
use Rattle.spec_protocol.specs.machine.Flying.{drain_slot, draining, told, delivering, reads_of, writes_of, retiring, younger_of, hits_younger}
use Rattle.spec_protocol.specs.machine.Placing.{placing}
use Rattle.spec_protocol.specs.machine.Machine.{Setup, core_no, sphere_no, slot_no, act, with_event, happens}
use Rattle.spec_protocol.specs.machine.Serial.{SerialState}
use Rattle.spec_protocol.specs.machine.Shown.{shown_of}
use Rattle.spec_protocol.specs.machine.Moves.{do_if}
use Rattle.spec_protocol.specs.machine.Finishing.{untold, deliver_or_retire, for_flight, SphereTurn, least, standing}
use Rattle.spec_protocol.proofs.Memory.Slots.{at_within}
use Rattle.spec_protocol.proofs.Moves.AnyEvent.{any-place}
use Rattle.spec_protocol.proofs.Invariants.Schedules.{happens-preserved}
use Rattle.spec_finishing.specs.Rank.{spheres_rank, potential, held_under_way, core_under_way, actor_under_way, under_way, rank}
use Rattle.spec_finishing.specs.Ending.{furthers_finishing, OfReplay}
use Rattle.spec_finishing.proofs.Next.Flights.{FlightFalls, drain-falls, deliver-falls, untold-core, retire-falls}
use Rattle.spec_finishing.proofs.Left.Rows.{spheres-shown}
use Rattle.spec_finishing.proofs.Ending.Knowing.{Known}
use Rattle.spec_finishing.proofs.Next.Turns.{HasActor, has-actor}
use Rattle.spec_finishing.proofs.Next.UnderWay.{under_way-most, under_way-flight, under_way-actor}
use Rattle.spec_finishing.proofs.Next.Cores.{Rose, place-rose}

-- ---- what is shown

-- the event is done, less is left after it, and what it does is of a replay
pub record Lowers (s : Setup) (w : World) (e : Event) : Type 0 where
  pub done : furthers_finishing (happens w e).reply ≡ true
  pub less : rank s (happens w e).world < rank s w
  pub alone : OfReplay w (happens w e).move

-- ---- there is a flight

no_move_spheres : (s : Setup) (w : World) (e : Event) → Known s w → (happens w e).move ≡ None → spheres_rank s.cores s.spheres (happens w e).world.spheres ≡ spheres_rank s.cores s.spheres w.spheres
no_move_spheres s w e known none =
    let a = happens w e in
    let same : shown_of a.world ≡ shown_of w = (happens-preserved w e known.good).whole ∙ ap (do_if w.numbers (shown_of w)) none in
    sym (spheres-shown s.cores s.spheres a.world.slots 0 a.world.spheres)
    ∙ ap (λ (x : SerialState). spheres_rank s.cores s.spheres x.spheres) same
    ∙ spheres-shown s.cores s.spheres w.slots 0 w.spheres

flight_happens : (c : ℕ) (w : World) (e : Event) → FlightFalls c w (act w e) → FlightFalls c w (happens w e)
unfolding happens
flight_happens c w e f = record { done = f.done; less = f.less }

move_happens : (w : World) (e : Event) → (act w e).move ≡ None → (happens w e).move ≡ None
unfolding happens
move_happens w e none = none

-- nothing took effect
nothing_alone : (w : World) (e : Event) → (act w e).move ≡ None → OfReplay w (happens w e).move
nothing_alone w e none = subst (OfReplay w) (sym (move_happens w e none)) tt

flight_falls : (s : Setup) (w : World) (e : Event) (k : ℕ) → Known s w → standing w ≡ Some k → FlightFalls s.cores w (act w e) → (act w e).move ≡ None → Lowers s w e
flight_falls s w e k known stands f none =
    let g = flight_happens s.cores w e f in
    let same = no_move_spheres s w e known (move_happens w e none) in
    let zero_ = under_way-flight w k stands in
    let less = g.less in
    record { done = g.done; less = omega (arith, same, zero_, less); alone = nothing_alone w e none }

drain_move : (w : World) (k : ℕ) (o : Option Flight) → (drain_slot w k o).move ≡ None
drain_move w k None = refl
drain_move w k (Some f) = refl

told_move : (w : World) (c : ℕ) (held : Option Occupant) (reply : Deliver) (hit : Bool) → (told w c held reply hit).move ≡ None
told_move w c held Deliver.NoCommit hit = refl
told_move w c held Deliver.Already hit = refl
told_move w c held Deliver.Squashed hit = refl
told_move w c held Deliver.Delivered true = refl
told_move w c held Deliver.Delivered false = refl

slot_is : (w : World) (k : ℕ) (f : Flight) → at w.slots k ≡ Some f → slot_no w k ≡ k
slot_is w k f is = mod-eq_of_lt (at_within w.slots k f is)

drain_act : (s : Setup) (w : World) (k : ℕ) (f : Flight) (x : Stored) (xs : List Stored) → Known s w → standing w ≡ Some k → at w.slots k ≡ Some f → f.words ≡ x ∷ xs → Lowers s w (Event.Drain k)
unfolding act draining
drain_act s w k f x xs known stands is words =
    flight_falls s w (Event.Drain k) k known stands
    (subst (λ (j : ℕ). FlightFalls s.cores w (draining w j)) (sym (slot_is w k f is)) (drain-falls s.cores w k f x xs is words))
    (drain_move w (slot_no w k) (at w.slots (slot_no w k)))

deliver_act : (s : Setup) (w : World) (c k : ℕ) (f : Flight) → Known s w → standing w ≡ Some k → at w.slots k ≡ Some f → untold 0 s.cores f.told ≡ Some c → Lowers s w (Event.Deliver c k)
unfolding act delivering
deliver_act s w c k f known stands is found =
    let core : core_no w c ≡ c = mod-eq_of_lt (let l = untold-core s.cores c f.told found in let e = known.sizes.cores in omega (arith, l, e)) in
    let d = core_no w c in
    let j = slot_no w k in
    flight_falls s w (Event.Deliver c k) k known stands
    (subst (λ (e : ℕ). FlightFalls s.cores w (delivering w e j)) (sym core)
    (subst (λ (e : ℕ). FlightFalls s.cores w (delivering w c e)) (sym (slot_is w k f is)) (deliver-falls s.cores w c k f is found)))
    (let held = at w.cores d in let v = deliver d (reads_of w held) (writes_of w held) (at w.slots j) in told_move (with_slot w j v.slot) d held v.reply (hits_younger (at w.slots j) (younger_of held)))

retire_act : (s : Setup) (w : World) (k : ℕ) (f : Flight) → Known s w → standing w ≡ Some k → at w.slots k ≡ Some f → f.words ≡ [] → untold 0 (length w.cores) f.told ≡ None → Lowers s w (Event.Retire k)
unfolding act retiring
retire_act s w k f known stands is words none =
    flight_falls s w (Event.Retire k) k known stands
    (subst (λ (j : ℕ). FlightFalls s.cores w (retiring w j)) (sym (slot_is w k f is)) (retire-falls s.cores w k f is words none))
    refl

told_falls : (s : Setup) (w : World) (k : ℕ) (f : Flight) (o : Option ℕ) → Known s w → standing w ≡ Some k → at w.slots k ≡ Some f → f.words ≡ [] → untold 0 (length w.cores) f.told ≡ o → Lowers s w (deliver_or_retire k o)
told_falls s w k f None known stands is words e = retire_act s w k f known stands is words e
told_falls s w k f (Some c) known stands is words e =
    deliver_act s w c k f known stands is (ap (λ (n : ℕ). untold 0 n f.told) (sym known.sizes.cores) ∙ e)

-- the next event of a flight leaves less
pub words_fall : (s : Setup) (w : World) (k : ℕ) (f : Flight) (ws : List Stored) → Known s w → standing w ≡ Some k → at w.slots k ≡ Some f → f.words ≡ ws → Lowers s w (for_flight (length w.cores) k f ws)
words_fall s w k f [] known stands is words = told_falls s w k f (untold 0 (length w.cores) f.told) known stands is words refl
words_fall s w k f (x ∷ xs) known stands is words = drain_act s w k f x xs known stands is words

-- ---- a thread's core

rose_under_way : (w : World) (who : SphereTurn) (k : ℕ) (a : EventOutcome) → standing w ≡ None → least 0 w.spheres ≡ Some who → who.actor ≡ Actor.Thread k → (r : Rose w who.sphere k a) → under_way (with_event a) ≡ held_under_way (Some r.held)
rose_under_way w who k a none e thread r =
    under_way-actor (with_event a) who (ap standing r.is ∙ none) (ap (λ (v : World). least 0 v.spheres) r.is ∙ e)
    ∙ ap (actor_under_way (with_event a) who.sphere) thread
    ∙ ap (core_under_way (with_event a)) r.found
    ∙ ap held_under_way r.there

rose_potential : (s : Setup) (w : World) (i k : ℕ) (a : EventOutcome) → Rose w i k a → potential s (with_event a) ≡ potential s w
rose_potential s w i k a r = ap (potential s) r.is

world_happens : (w : World) (e : Event) → (happens w e).world ≡ with_event (act w e)
unfolding happens
world_happens w e = refl

reply_happens : (w : World) (e : Event) → (happens w e).reply ≡ (act w e).reply
unfolding happens
reply_happens w e = refl

-- an event by which a thread's chunk has got further, and which moves nothing, leaves less
pub rose_falls : (s : Setup) (w : World) (who : SphereTurn) (k : ℕ) (e : Event) → Known s w → Known s (happens w e).world → standing w ≡ None → least 0 w.spheres ≡ Some who → who.actor ≡ Actor.Thread k → (r : Rose w who.sphere k (act w e)) → (act w e).move ≡ None → under_way w < held_under_way (Some r.held) → Lowers s w e
rose_falls s w who k e known next_known none is thread r no_move more =
    let now = ap under_way (world_happens w e) ∙ rose_under_way w who k (act w e) none is thread r in
    let same = ap (potential s) (world_happens w e) ∙ rose_potential s w who.sphere k (act w e) r in
    let most = under_way-most s (happens w e).world next_known in
    record { done = ap furthers_finishing (reply_happens w e) ∙ r.done; less = omega (arith, now, same, most, more); alone = nothing_alone w e no_move }

place_move : (w : World) (c i k : ℕ) → (placing w c i k).move ≡ None
place_move w c i k = any-place w (λ (a : EventOutcome). a.move ≡ None) (λ r none. refl) c i k (λ t is live none. refl)

-- placing the thread whose turn it is leaves less
pub place_act : (s : Setup) (w : World) (who : SphereTurn) (k : ℕ) → Known s w → Known s (happens w (Event.Place 0 who.sphere k)).world → 0 < s.cores → standing w ≡ None → least 0 w.spheres ≡ Some who → who.actor ≡ Actor.Thread k → core_of w who.sphere k ≡ None → Lowers s w (Event.Place 0 who.sphere k)
unfolding act
place_act s w who k known next_known some none is thread free =
    let i = who.sphere in
    let a = has-actor s w who known none is in
    let b : HasActor s w i (Actor.Thread k) = subst (HasActor s w i) thread a in
    let cores : 0 < length w.cores = (let e = known.sizes.cores in omega (arith, some, e)) in
    let core : core_no w 0 ≡ 0 = mod-eq_of_lt cores in
    let sphere : sphere_no w i ≡ i = mod-eq_of_lt a.within in
    let r : Rose w i k (act w (Event.Place 0 i k)) = (
    subst (λ (c : ℕ). Rose w i k (placing w c (sphere_no w i) k)) (sym core)
    (subst (λ (j : ℕ). Rose w i k (placing w 0 j k)) (sym sphere) (place-rose s w i k cores b free))
    ) in
    let was = under_way-actor w who none is ∙ ap (actor_under_way w i) thread ∙ ap (core_under_way w) free in
    rose_falls s w who k (Event.Place 0 i k) known next_known none is thread r (place_move w (core_no w 0) (sphere_no w i) k) (omega (arith, was))
