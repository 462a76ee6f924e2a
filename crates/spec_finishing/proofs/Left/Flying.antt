-- Events of flights never increase what is left of the flights.
use Rattle.std.proofs.Common.{◌≡◌, ℕ, zero, suc, ◌≤◌, cond, List, [], ◌∷◌, length, Option, Some, None, refl, ap, arith, set, Bool, true, false}
use Rattle.spec_isa.specs.Words.{Stored}
use Rattle.spec_engine.specs.declared.answers.Deliver.{Deliver}
use Rattle.spec_engine.specs.declared.answers.Retire.{Retire}
use Rattle.spec_engine.specs.Signatures.{Signature}
use Rattle.spec_engine.specs.Flights.{Flight, at, told_at, tell, meets_chunk, drain_words, deliver, Delivered, is_done, retire, Retired}
use Rattle.spec_protocol.specs.machine.World.{World, Occupant, EventOutcome, sphere_at, with_slot}
use Rattle.spec_protocol.specs.machine.Flying.{drain_slot, draining, reads_of, writes_of, told, deliver_to, delivering, retiring, younger_of, hits_younger}
use Rattle.spec_protocol.proofs.Memory.Slots.{at_within}
use Rattle.spec_play.proofs.Threads.{branch}
use Rattle.spec_finishing.specs.Rank.{flight_rank, flights_rank}
use Rattle.spec_finishing.proofs.Left.Slots.{flights-set, untold-less}

-- ---- no more

-- the flights have no more left than before
abbrev pub NoMore : (cores : ℕ) → World → EventOutcome → Type 0
NoMore c w a = flights_rank c a.world.slots ≤ flights_rank c w.slots

-- a slot that holds a flight has no more left
set_most : (c : ℕ) (xs : List (Option Flight)) (k : ℕ) (f : Flight) (v : Option Flight) → at xs k ≡ Some f → flight_rank c v ≤ flight_rank c (Some f) → flights_rank c (set xs k v) ≤ flights_rank c xs
set_most c xs k f v is less =
    let r = flights-set c xs k v (at_within xs k f is) in
    let h = ap (flight_rank c) is in
    omega (arith, r, h, less)

drained_most : (c : ℕ) (m : List ℕ) (f : Flight) (ws : List Stored) → f.words ≡ ws → flight_rank c (drain_words m f ws).slot ≤ flight_rank c (Some f)
drained_most c m f [] e = omega arith
drained_most c m f (w ∷ ws) e = let h = ap (λ (us : List Stored). length us) e in omega (arith, h)

drain_slot_most : (c : ℕ) (w : World) (k : ℕ) (o : Option Flight) → at w.slots k ≡ o → NoMore c w (drain_slot w k o)
drain_slot_most c w k None e = omega arith
drain_slot_most c w k (Some f) e =
    set_most c w.slots k f _ e (drained_most c (sphere_at w f.sphere).memory f f.words refl)

-- a drain leaves the flights no more than they had
pub drain-most : (c : ℕ) (w : World) (k : ℕ) → NoMore c w (draining w k)
unfolding draining
drain-most c w k = drain_slot_most c w k (at w.slots k) refl

set_none : (c : ℕ) (xs : List (Option Flight)) (k : ℕ) → at xs k ≡ None → flights_rank c (set xs k None) ≤ flights_rank c xs
set_none c [] k e = omega arith
set_none c (x ∷ xs) zero e = omega arith
set_none c (x ∷ xs) (suc k) e = let r = set_none c xs k e in omega (arith, r)

-- what holds of the slots holds of them in the world in which a core was told
pub told_world : (P : List (Option Flight) → Type 0) (w : World) (d : ℕ) (held : Option Occupant) (reply : Deliver) (hit : Bool) → P w.slots → P (told w d held reply hit).world.slots
told_world P w d held Deliver.NoCommit hit p = p
told_world P w d held Deliver.Already hit p = p
told_world P w d held Deliver.Squashed hit p = p
told_world P w d held Deliver.Delivered true p = p
told_world P w d held Deliver.Delivered false p = p

deliver_most : (c d : ℕ) (reads writes : Signature) (xs : List (Option Flight)) (k : ℕ) (o : Option Flight) → at xs k ≡ o → flights_rank c (set xs k (deliver d reads writes o).slot) ≤ flights_rank c xs
deliver_most c d reads writes xs k None e = set_none c xs k e
deliver_most c d reads writes xs k (Some f) e =
    set_most c xs k f _ e
    (branch (λ (v : Delivered). flight_rank c v.slot ≤ flight_rank c (Some f)) (told_at f.told d) (record { reply = Deliver.Already; slot = Some f })
    (record { reply = cond (meets_chunk reads writes f) Deliver.Squashed Deliver.Delivered; slot = Some (tell f d) })
    (λ _. omega arith)
    (λ _. let h = untold-less c f d in omega (arith, h)))

deliver_to_most : (c : ℕ) (w : World) (d k : ℕ) (held : Option Occupant) → NoMore c w (deliver_to w d k held)
deliver_to_most c w d k held =
    let v = deliver d (reads_of w held) (writes_of w held) (at w.slots k) in
    told_world (λ xs. flights_rank c xs ≤ flights_rank c w.slots) (with_slot w k v.slot) d held v.reply (hits_younger (at w.slots k) (younger_of held))
    (deliver_most c d (reads_of w held) (writes_of w held) w.slots k (at w.slots k) refl)

-- a delivery leaves the flights no more than they had
pub deliver-most : (c : ℕ) (w : World) (d k : ℕ) → NoMore c w (delivering w d k)
unfolding delivering
deliver-most c w d k = deliver_to_most c w d k (at w.cores d)

retire_set : (c n : ℕ) (xs : List (Option Flight)) (k : ℕ) (o : Option Flight) → at xs k ≡ o → flights_rank c (set xs k (retire n o).slot) ≤ flights_rank c xs
retire_set c n xs k None e = set_none c xs k e
retire_set c n xs k (Some f) e =
    set_most c xs k f _ e
    (branch (λ (v : Retired). flight_rank c v.slot ≤ flight_rank c (Some f)) (is_done n f) (record { reply = Retire.Retired; slot = None }) (record { reply = Retire.NotDone; slot = Some f })
    (λ _. omega arith)
    (λ _. omega arith))

-- a retiring leaves the flights no more than they had
pub retire-most : (c : ℕ) (w : World) (k : ℕ) → NoMore c w (retiring w k)
unfolding retiring
retire-most c w k = retire_set c (length w.cores) w.slots k (at w.slots k) refl
