-- The searches for the lowest core, sphere and thread find the ones that the definitions name.
use Rattle.std.proofs.Common.{◌≡◌, ℕ, zero, suc, ◌+◌, ◌-◌, ◌<◌, Bool, true, false, cond, List, [], ◌∷◌, length, get_or, Option, Some, None, refl, sym, ap, ◌∙◌, arith}
use Rattle.std.proofs.lemmas.Option.{none-some}
use Rattle.dl_entry.specs.declared.Actor.{Actor}
use Rattle.spec_engine.specs.Flights.{at, passes, told_at}
use Rattle.spec_engine.proofs.Searches.{first_is, first_is_none}
use Rattle.spec_protocol.specs.declared.event.Event.{Event}
use Rattle.spec_sphere.specs.sphere.Spheres.{Role, Plain, Record, Replay, Sphere, no_sphere}
use Rattle.spec_protocol.specs.machine.World.{World, Occupant, runs, core_of}
use Rattle.spec_protocol.specs.machine.Finishing.{SphereTurn, untold, named_turn, turn_of_role, least, for_held, for_core}
use Rattle.dl_finish.specs.Turns.{turn_in, if_runs, on_core}

-- ---- cores that were not told

untold_more : (c n m t : ℕ) → n ≡ suc m → told_at t c ≡ true → untold c n t ≡ untold (suc c) m t
untold_more c n m t is told =
    ap (λ (k : ℕ). untold c k t) is ∙ ap (λ (b : Bool). cond b (untold (suc c) m t) (Some c)) told

-- if core c was told, the search for one that wasn't goes on at the core after it
pub untold_next : (c n t : ℕ) → c < n → told_at t c ≡ true → untold c (n - c) t ≡ untold (c + 1) (n - (c + 1)) t
untold_next c n t l told =
    let e : suc c ≡ c + 1 = omega arith in
    untold_more c (n - c) (n - (c + 1)) t (omega (arith, l)) told ∙ ap (λ (d : ℕ). untold d (n - (c + 1)) t) e

-- if core c wasn't told, it is the first from c on that wasn't
pub untold_here : (c n t : ℕ) → c < n → told_at t c ≡ false → untold c (n - c) t ≡ Some c
untold_here c n t l told =
    let e : n - c ≡ suc (n - suc c) = omega (arith, l) in
    ap (λ (k : ℕ). untold c k t) e ∙ ap (λ (b : Bool). cond b (untold (suc c) (n - suc c) t) (Some c)) told

-- ---- replays that go on

who_turn : (i : ℕ) (role : Role) (others : Option SphereTurn) → turn_of_role i role others ≡ named_turn i (turn_in role) others
who_turn i Plain others = refl
who_turn i (Record recording) others = refl
who_turn i (Replay b) others = refl

-- the first sphere with an actor whose turn it is is the one that goes on
pub least_is : (n : ℕ) (ps : List Sphere) (i k : ℕ) (actor : Actor) → n + i ≡ k → i < length ps → ((j : ℕ) → j < i → turn_in (get_or ps j no_sphere).role ≡ None) → turn_in (get_or ps i no_sphere).role ≡ Some actor → least n ps ≡ Some (record { sphere = k; actor = actor })
least_is n [] i k actor e l before here = absurd (omega (arith, l))
least_is n (p ∷ ps) zero k actor e l before here =
    let same : n ≡ k = omega (arith, e) in
    who_turn n p.role (least (suc n) ps) ∙ ap (λ (o : Option Actor). named_turn n o (least (suc n) ps)) here ∙ ap (λ (m : ℕ). Some (record { sphere = m; actor = actor })) same
least_is n (p ∷ ps) (suc i) k actor e l before here =
    who_turn n p.role (least (suc n) ps)
    ∙ ap (λ (o : Option Actor). named_turn n o (least (suc n) ps)) (before zero (omega arith))
    ∙ least_is (suc n) ps i k actor (omega (arith, e)) (omega (arith, l)) (λ j m. before (suc j) (omega (arith, m))) here

-- if it is no actor's turn in any sphere, no sphere goes on
pub least_is_none : (n : ℕ) (ps : List Sphere) → ((j : ℕ) → j < length ps → turn_in (get_or ps j no_sphere).role ≡ None) → least n ps ≡ None
least_is_none n [] each = refl
least_is_none n (p ∷ ps) each =
    who_turn n p.role (least (suc n) ps)
    ∙ ap (λ (o : Option Actor). named_turn n o (least (suc n) ps)) (each zero (omega arith))
    ∙ least_is_none (suc n) ps (λ j m. each (suc j) (omega (arith, m)))

-- ---- cores that run a thread

if_runs_by : (c : ℕ) (h : Occupant) (b : Bool) → cond b (for_held c (Some h)) None ≡ None → b ≡ false
if_runs_by c h true e = absurd (none-some _ (sym e))
if_runs_by c h false e = refl

none_passes : (c i k : ℕ) (o : Option Occupant) → if_runs c i k o ≡ None → passes (runs i k) o ≡ false
none_passes c i k None e = refl
none_passes c i k (Some h) e = if_runs_by c h (runs i k h) e

some_by : (c : ℕ) (h : Occupant) (b : Bool) (e : Event) → Some e ≡ cond b (for_held c (Some h)) None → (b ≡ true) × (Some e ≡ for_held c (Some h))
some_by c h true e is = (refl, is)
some_by c h false e is = absurd (none-some e (sym is))

some_passes : (c i k : ℕ) (o : Option Occupant) (e : Event) → Some e ≡ if_runs c i k o → (passes (runs i k) o ≡ true) × (Some e ≡ for_held c o)
some_passes c i k None e is = absurd (none-some e (sym is))
some_passes c i k (Some h) e is = some_by c h (runs i k h) e is

-- if a core is the first with an event for the thread, that event is next
pub for_core_is : (w : World) (i k c : ℕ) (e : Event) → c < length w.cores → ((j : ℕ) → j < c → on_core w j i k ≡ None) → Some e ≡ on_core w c i k → Some e ≡ for_core w i k (core_of w i k)
for_core_is w i k c e l before here =
    let s = some_passes c i k (at w.cores c) e here in
    s.1 ∙ ap (for_core w i k) (first_is (runs i k) w.cores c l (λ j m. none_passes j i k (at w.cores j) (before j m)) s.0)

-- if no core has an event for the thread, the next event places it on core 0
pub for_core_none : (w : World) (i k : ℕ) → ((j : ℕ) → j < length w.cores → on_core w j i k ≡ None) → Some (Event.Place 0 i k) ≡ for_core w i k (core_of w i k)
for_core_none w i k each =
    ap (for_core w i k) (first_is_none (runs i k) w.cores (λ j m. none_passes j i k (at w.cores j) (each j m)))
