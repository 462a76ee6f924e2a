-- If there is a flight, the next event of finishing is done and reduces what is left of the flights.
use Rattle.std.proofs.Common.{◌≡◌, ℕ, zero, suc, ◌+◌, ◌<◌, ◌≤◌, inl, inr, Bool, true, false, cond, List, [], ◌∷◌, length, Option, Some, None, refl, sym, ap, ◌∙◌, subst, arith, set}
use Rattle.std.proofs.lemmas.Bool.{cases_eq, and_from}
use Rattle.std.proofs.lemmas.Option.{none-some}
use Rattle.spec_isa.specs.Words.{Stored}
use Rattle.spec_engine.specs.declared.answers.Deliver.{Deliver}
use Rattle.spec_engine.specs.declared.answers.Retire.{Retire}
use Rattle.spec_engine.specs.Flights.{Flight, at, told_at, all_told, tell, meets_chunk, has_none, deliver, Delivered, is_done, retire, Retired}
use Rattle.spec_engine.proofs.Searches.{all_told-from}
use Rattle.spec_protocol.specs.machine.World.{World, Occupant, EventOutcome, with_slot, answered}
use Rattle.spec_protocol.specs.machine.Flying.{drain_slot, draining, reads_of, writes_of, told, deliver_to, delivering, reply_of_retire, retiring, younger_of, hits_younger}
use Rattle.spec_protocol.specs.machine.Finishing.{untold}
use Rattle.spec_protocol.proofs.Memory.Slots.{at_within}
use Rattle.spec_finishing.specs.Rank.{flight_rank, flights_rank}
use Rattle.spec_finishing.specs.Ending.{furthers_finishing}
use Rattle.spec_finishing.proofs.Left.Slots.{flights-set, untold-tell}
use Rattle.spec_finishing.proofs.Left.Flying.{told_world}

-- the event is done, and the flights have less left
pub record FlightFalls (c : ℕ) (w : World) (a : EventOutcome) : Type 0 where
  pub done : furthers_finishing a.reply ≡ true
  pub less : flights_rank c a.world.slots < flights_rank c w.slots

set_less : (c : ℕ) (xs : List (Option Flight)) (k : ℕ) (f : Flight) (v : Option Flight) → at xs k ≡ Some f → flight_rank c v < flight_rank c (Some f) → flights_rank c (set xs k v) < flights_rank c xs
set_less c xs k f v is less =
    let r = flights-set c xs k v (at_within xs k f is) in
    let h = ap (flight_rank c) is in
    omega (arith, r, h, less)

-- ---- Drain

drained : (c : ℕ) (w : World) (k : ℕ) (f : Flight) (s : Stored) (ss : List Stored) → at w.slots k ≡ Some f → f.words ≡ s ∷ ss → FlightFalls c w (drain_slot w k (Some f))
drained c w k f s ss is words =
    subst (λ (ws : List Stored). FlightFalls c w (drain_slot w k (Some (record f { words = ws })))) (sym words)
    (record { done = refl; less = set_less c w.slots k f (Some (record f { words = ss })) is (let h = ap (λ (us : List Stored). length us) words in omega (arith, h)) })

-- a drain of a flight with words leaves the flights less
pub drain-falls : (c : ℕ) (w : World) (k : ℕ) (f : Flight) (s : Stored) (ss : List Stored) → at w.slots k ≡ Some f → f.words ≡ s ∷ ss → FlightFalls c w (draining w k)
unfolding draining
drain-falls c w k f s ss is words =
    subst (λ (o : Option Flight). FlightFalls c w (drain_slot w k o)) (sym is) (drained c w k f s ss is words)

-- ---- Deliver

-- the core that is found wasn't told
untold_if : (b : Bool) (c n d : ℕ) (t : ℕ) → told_at t c ≡ b → cond b (untold (suc c) n t) (Some c) ≡ Some d → (untold (suc c) n t ≡ Some d → (d < suc c + n) × (told_at t d ≡ false)) → (d < c + suc n) × (told_at t d ≡ false)
untold_if true c n d t is e deeper = let r = deeper e in (omega (arith, r.0), r.1)
untold_if false c n d t is e deeper = let h : c ≡ d = cc in (omega (arith, h), ap (told_at t) (sym h) ∙ is)

untold_some : (c n d t : ℕ) → untold c n t ≡ Some d → (d < c + n) × (told_at t d ≡ false)
untold_some c zero d t e = absurd (none-some d e)
untold_some c (suc n) d t e = untold_if (told_at t c) c n d t refl e (untold_some (suc c) n d t)

told_reply : (w : World) (d : ℕ) (held : Option Occupant) (b hit : Bool) → furthers_finishing (told w d held (cond b Deliver.Squashed Deliver.Delivered) hit).reply ≡ true
told_reply w d held true hit = refl
told_reply w d held false true = refl
told_reply w d held false false = refl

delivered : (c : ℕ) (w : World) (d k : ℕ) (held : Option Occupant) (f : Flight) → at w.slots k ≡ Some f → d < c → told_at f.told d ≡ false → FlightFalls c w (deliver_to w d k held)
delivered c w d k held f is l untold_ =
    subst (λ (o : Option Flight). FlightFalls c w (let v = deliver d (reads_of w held) (writes_of w held) o in told (with_slot w k v.slot) d held v.reply (hits_younger o (younger_of held)))) (sym is)
    (subst (λ (b : Bool). FlightFalls c w (let v = cond {A = Delivered} b (record { reply = Deliver.Already; slot = Some f }) (record { reply = cond (meets_chunk (reads_of w held) (writes_of w held) f) Deliver.Squashed Deliver.Delivered; slot = Some (tell f d) }) in told (with_slot w k v.slot) d held v.reply (hits_younger (Some f) (younger_of held)))) (sym untold_)
    (let b = meets_chunk (reads_of w held) (writes_of w held) f in
    let hit = hits_younger (Some f) (younger_of held) in
    record {
      done = told_reply (with_slot w k (Some (tell f d))) d held b hit;
      less = told_world (λ xs. flights_rank c xs < flights_rank c w.slots) (with_slot w k (Some (tell f d))) d held (cond b Deliver.Squashed Deliver.Delivered) hit
          (set_less c w.slots k f (Some (tell f d)) is (let h = untold-tell c f d l untold_ in omega (arith, h)));
    }))

-- a delivery to a core that wasn't told leaves the flights less
pub deliver-falls : (c : ℕ) (w : World) (d k : ℕ) (f : Flight) → at w.slots k ≡ Some f → untold 0 c f.told ≡ Some d → FlightFalls c w (delivering w d k)
unfolding delivering
deliver-falls c w d k f is e =
    let r = untold_some 0 c d f.told e in delivered c w d k (at w.cores d) f is (omega (arith, r.0)) r.1

-- a core that wasn't told is one of the cores
pub untold-core : (c d t : ℕ) → untold 0 c t ≡ Some d → d < c
untold-core c d t e = let r = untold_some 0 c d t e in omega (arith, r.0)

-- ---- Retire

told_if : (b : Bool) (c n d t : ℕ) → told_at t c ≡ b → cond b (untold (suc c) n t) (Some c) ≡ None → c ≤ d → d < c + suc n → (untold (suc c) n t ≡ None → suc c ≤ d → told_at t d ≡ true) → told_at t d ≡ true
told_if true c n d t is e l m deeper =
    elim (cases_eq c d) [ inl h ↦ ap (told_at t) (sym h) ∙ is | inr ne ↦ deeper e (omega arith) ]
told_if false c n d t is e l m deeper = absurd (none-some c (sym e))

untold_none : (c n d t : ℕ) → untold c n t ≡ None → c ≤ d → d < c + n → told_at t d ≡ true
untold_none c zero d t e l m = absurd (omega arith)
untold_none c (suc n) d t e l m =
    told_if (told_at t c) c n d t refl e l m (λ f h. untold_none (suc c) n d t f h (omega arith))

retired : (c : ℕ) (w : World) (k : ℕ) (f : Flight) → at w.slots k ≡ Some f → is_done (length w.cores) f ≡ true → FlightFalls c w (let d = retire (length w.cores) (Some f) in answered (with_slot w k d.slot) (reply_of_retire d.reply))
retired c w k f is done =
    subst (λ (b : Bool). FlightFalls c w (let d = cond {A = Retired} b (record { reply = Retire.Retired; slot = None }) (record { reply = Retire.NotDone; slot = Some f }) in answered (with_slot w k d.slot) (reply_of_retire d.reply))) (sym done)
    (record { done = refl; less = set_less c w.slots k f None is (omega arith) })

-- a retiring of a flight with no word left, and every core told, leaves the flights less
pub retire-falls : (c : ℕ) (w : World) (k : ℕ) (f : Flight) → at w.slots k ≡ Some f → f.words ≡ [] → untold 0 (length w.cores) f.told ≡ None → FlightFalls c w (retiring w k)
unfolding retiring
retire-falls c w k f is words none =
    subst (λ (o : Option Flight). FlightFalls c w (let d = retire (length w.cores) o in answered (with_slot w k d.slot) (reply_of_retire d.reply))) (sym is)
    (retired c w k f is
    (and_from (has_none f.words) (all_told (length w.cores) f.told) (ap has_none words)
    (all_told-from (length w.cores) f.told (λ d l. untold_none 0 (length w.cores) d f.told none (omega arith) (omega arith)))))
