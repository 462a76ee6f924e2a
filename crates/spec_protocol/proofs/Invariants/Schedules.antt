-- Every event keeps the invariant, and the start has it: so it holds after every schedule.
use Rattle.std.proofs.Common.{◌≡◌, ℕ, zero, suc, ◌+◌, ◌<◌, List, [], ◌∷◌, length, replicate, Option, Some, None, refl, sym, ap, ◌∙◌, subst, arith, get_or, slice_get, map}
use Rattle.std.proofs.lemmas.Option.{none-some}
use Rattle.spec_isa.specs.Words.{lays, Apart}
use Rattle.spec_engine.specs.Flights.{Flight, at}
use Rattle.spec_protocol.specs.declared.event.Event.{Event}
use Rattle.spec_sphere.specs.sphere.Spheres.{Sphere, no_sphere}
use Rattle.spec_protocol.specs.machine.World.{Numbers, Occupant, World, Move, EventOutcome, held_afresh, sphere_at}
use Rattle.spec_sphere.specs.sphere.Setups.{SphereSetup, sphere_of}
use Rattle.spec_protocol.specs.machine.Machine.{Setup, first_cores, world_of, core_no, sphere_no, slot_no, act, with_event, happens, world_after, with_move, moves}
use Rattle.spec_protocol.specs.machine.Serial.{SerialState, serial_start}
use Rattle.spec_engine.specs.Flying.{flying}
use Rattle.spec_protocol.specs.machine.Shown.{shown, shown_from, shown_of}
use Rattle.spec_protocol.specs.machine.Moves.{do_if, do_moves, FitsIf, FitAll}
use Rattle.spec_protocol.specs.promises.Promises.{IsSetup, MovesAreSerial, InvariantsHold, SizesAreKept}
use Rattle.spec_protocol.proofs.Invariants.Preserved.{Preserved, SameSizes, same_sizes}
use Rattle.spec_protocol.proofs.Invariants.Cores.{step-preserved, cut-preserved}
use Rattle.spec_protocol.proofs.Invariants.Flights.{drain-preserved, deliver-preserved, retire-preserved}
use Rattle.spec_protocol.proofs.Invariants.Landing.{afresh-begins, afresh-held}
use Rattle.spec_protocol.proofs.Invariants.Asks.{ask-preserved}
use Rattle.spec_protocol.proofs.Invariants.Threads.{place-preserved, raise-preserved}
use Rattle.spec_protocol.proofs.Invariants.Transfers.{dma-preserved}
use Rattle.spec_protocol.specs.promises.Invariants.{IsGoodHeld, IsGood}
use Rattle.std.proofs.lemmas.List.{length-replicate, length-map}

-- ---- one event

act_preserved : (w : World) (e : Event) → IsGood w → Preserved w (act w e)
unfolding act
act_preserved w (Event.Step c) good = step-preserved w (core_no w c) good
act_preserved w (Event.Cut c) good = cut-preserved w (core_no w c) good
act_preserved w (Event.Ask c) good = ask-preserved w (core_no w c) good
act_preserved w (Event.Drain k) good = drain-preserved w (slot_no w k) good
act_preserved w (Event.Deliver c k) good = deliver-preserved w (core_no w c) (slot_no w k) good
act_preserved w (Event.Retire k) good = retire-preserved w (slot_no w k) good
act_preserved w (Event.Place c i k) good = place-preserved w (core_no w c) (sphere_no w i) k good
act_preserved w (Event.Raise i k value) good = raise-preserved w (sphere_no w i) k value good
act_preserved w (Event.Dma i) good = dma-preserved w (sphere_no w i) good

-- counts and points are no part of what is kept
held_counted : (a : EventOutcome) (c : ℕ) (h : Occupant) → IsGoodHeld a.world c h → IsGoodHeld (with_event a) c h
held_counted a c h g =
    record { sphere = g.sphere; thread = g.thread; chunk = g.chunk; follows = g.follows; younger = g.younger }

good_counted : (a : EventOutcome) → IsGood a.world → IsGood (with_event a)
good_counted a g =
    record {
      buffer = g.buffer;
      standard = g.standard;
      apart = g.apart;
      covered = g.covered;
      flights = g.flights;
      held = λ c h e. held_counted a c h (g.held c h e);
      alone = g.alone;
    }

-- every event keeps the invariant
pub happens-preserved : (w : World) (e : Event) → IsGood w → Preserved w (happens w e)
unfolding happens
happens-preserved w e good =
    let k = act_preserved w e good in
    record {
      good = good_counted (act w e) k.good;
      sizes = record { numbers = k.sizes.numbers; spheres = k.sizes.spheres; cores = k.sizes.cores; slots = k.sizes.slots };
      point = k.point;
      whole = k.whole;
      fits = k.fits;
    }

-- ---- the start

-- no flight stands in slots that are all free
pub free_slots : (n k : ℕ) (f : Flight) → at (replicate n None) k ≡ Some f → ⊥
free_slots zero k f e = none-some f e
free_slots (suc n) zero f e = none-some f e
free_slots (suc n) (suc k) f e = free_slots n k f e

none_flies : (n i : ℕ) → flying i (replicate n None) ≡ []
none_flies zero i = refl
none_flies (suc n) i = none_flies n i

-- what core c holds at first
pub first_held : (z : Numbers) (i n c : ℕ) (ps : List Sphere) (h : Occupant) → at (first_cores z i n ps) c ≡ Some h → (c < length ps) × (held_afresh z (i + c) 0 (get_or ps c no_sphere) ≡ Some h)
first_held z i zero c ps h e = absurd (none-some h e)
first_held z i (suc n) zero [] h e = absurd (none-some h e)
first_held z i (suc n) (suc c) [] h e = absurd (omega (arith, (first_held z (suc i) n c [] h e).0))
first_held z i (suc n) zero (p ∷ ps) h e = let k : i + 0 ≡ i = omega arith in (omega arith, ap (λ (j : ℕ). held_afresh z j 0 p) k ∙ e)
first_held z i (suc n) (suc c) (p ∷ ps) h e =
    let r = first_held z (suc i) n c ps h e in
    let k : i + suc c ≡ suc i + c = omega arith in
    (omega (arith, r.0), ap (λ (j : ℕ). held_afresh z j 0 (get_or ps c no_sphere)) k ∙ r.1)

first_sphere : (z : Numbers) (n c : ℕ) (ps : List Sphere) (h : Occupant) → at (first_cores z 0 n ps) c ≡ Some h → h.chunk.sphere ≡ c
first_sphere z n c ps h e =
    let r = first_held z 0 n c ps h e in
    let b = afresh-begins z (0 + c) 0 (get_or ps c no_sphere) h r.1 in
    let k : 0 + c ≡ c = omega arith in
    ap (λ (x : Occupant). x.chunk.sphere) (sym b.is) ∙ k

-- the world that a setup starts is good
pub start-good : (s : Setup) → IsSetup s → IsGood (world_of s)
start-good s is =
    let w = world_of s in
    record {
      buffer = is.buffer;
      standard = is.chunk;
      apart = λ i. subst Apart (sym (none_flies s.window i)) tt;
      covered = λ k f e. absurd (free_slots s.window k f e);
      flights = λ k f e. absurd (free_slots s.window k f e);
      held = λ c h e.
          let r = first_held s.numbers 0 s.cores c w.spheres h e in
          let k : 0 + c ≡ c = omega arith in
          afresh-held w c 0 c (sphere_at w c) h r.0 is.chunk refl
          (afresh-begins s.numbers c 0 (sphere_at w c) h (sym (ap (λ (j : ℕ). held_afresh s.numbers j 0 (sphere_at w c)) k) ∙ r.1));
      alone = λ c d h g eh eg same thread. sym (first_sphere s.numbers s.cores c w.spheres h eh) ∙ same ∙ first_sphere s.numbers s.cores d w.spheres g eg;
    }

-- what sphere i is at first
pub start-sphere : (z : ℕ) (ds : List SphereSetup) (i : ℕ) (d : SphereSetup) → slice_get ds i ≡ Some d → slice_get (map (sphere_of z) ds) i ≡ Some (sphere_of z d)
start-sphere z [] i d e = absurd (none-some d e)
start-sphere z (c ∷ ds) zero d e = let h : c ≡ d = cc in ap (λ (x : SphereSetup). Some (sphere_of z x)) h
start-sphere z (c ∷ ds) (suc i) d e = start-sphere z ds i d e

shown_itself : (n i : ℕ) (ps : List Sphere) → shown_from (replicate n None) i ps ≡ ps
unfolding shown
shown_itself n i [] = refl
shown_itself n i (p ∷ ps) = (λ j. record p { memory = lays p.memory (none_flies n i j) } ∷ shown_itself n (suc i) ps j)

-- the world that a setup starts shows the setup's spheres and devices
pub start-shown : (s : Setup) → shown_of (world_of s) ≡ serial_start s
start-shown s = (λ j. record { spheres = shown_itself s.window 0 (world_of s).spheres j; devices = (world_of s).devices })

-- ---- schedules

-- a good world is good after every list of events
pub after-good : (w : World) (es : List Event) → IsGood w → IsGood (world_after w es)
after-good w [] good = good
after-good w (e ∷ es) good = after-good (happens w e).world es (happens-preserved w e good).good

with_moves : (z : Numbers) (x : SerialState) (o : Option Move) (ms : List Move) → do_moves z x (with_move o ms) ≡ do_moves z (do_if z x o) ms
with_moves z x None ms = refl
with_moves z x (Some m) ms = refl

with_fits : (z : Numbers) (x : SerialState) (o : Option Move) (ms : List Move) → FitsIf z x o → FitAll z (do_if z x o) ms → FitAll z x (with_move o ms)
with_fits z x None ms fits all = all
with_fits z x (Some m) ms fits all = (fits, all)

-- what a world shows after these events is what their moves, done whole, give
pub record Serial (w : World) (es : List Event) : Type 0 where
  pub same : shown_of (world_after w es) ≡ do_moves w.numbers (shown_of w) (moves w es)
  pub possible : FitAll w.numbers (shown_of w) (moves w es)

-- so it is of a good world
pub moves_serial : (w : World) (es : List Event) → IsGood w → Serial w es
moves_serial w [] good = record { same = refl; possible = tt }
moves_serial w (e ∷ es) good =
    let a = happens w e in
    let k = happens-preserved w e good in
    let r = moves_serial a.world es k.good in
    record {
      same = r.same ∙ (λ j. do_moves (k.sizes.numbers j) (k.whole j) (moves a.world es)) ∙ sym (with_moves w.numbers (shown_of w) a.move (moves a.world es));
      possible = with_fits w.numbers (shown_of w) a.move (moves a.world es) k.fits
          (subst (λ (x : SerialState). FitAll w.numbers x (moves a.world es)) k.whole
          (subst (λ (z : Numbers). FitAll z (shown_of a.world) (moves a.world es)) k.sizes.numbers r.possible));
    }

-- what is shown after a schedule is what its moves, done whole in their order, give
pub moves_are : MovesAreSerial
moves_are s es is =
    let r = moves_serial (world_of s) es (start-good s is) in
    record {
      same = r.same ∙ ap (λ (x : SerialState). do_moves s.numbers x (moves (world_of s) es)) (start-shown s);
      possible = subst (λ (x : SerialState). FitAll s.numbers x (moves (world_of s) es)) (start-shown s) r.possible;
    }

-- every world after a schedule is good
pub invariants_hold : InvariantsHold
invariants_hold s es is = after-good (world_of s) es (start-good s is)

-- ---- the numbers

abbrev both_sizes : (w v u : World) → SameSizes w v → SameSizes v u → SameSizes w u
both_sizes w v u a b =
    record {
      numbers = b.numbers ∙ a.numbers;
      spheres = b.spheres ∙ a.spheres;
      cores = b.cores ∙ a.cores;
      slots = b.slots ∙ a.slots;
    }

after_sizes : (w : World) (es : List Event) → IsGood w → SameSizes w (world_after w es)
after_sizes w [] good = same_sizes w
after_sizes w (e ∷ es) good =
    let k = happens-preserved w e good in
    both_sizes w (happens w e).world (world_after w (e ∷ es)) k.sizes (after_sizes (happens w e).world es k.good)

first_length : (z : Numbers) (i n : ℕ) (ps : List Sphere) → length (first_cores z i n ps) ≡ n
first_length z i zero ps = refl
first_length z i (suc n) [] = ap suc (first_length z (suc i) n [])
first_length z i (suc n) (p ∷ ps) = ap suc (first_length z (suc i) n ps)

-- no schedule changes the number of spheres, cores and slots, or the sizes
pub sizes_kept : SizesAreKept
sizes_kept s es is =
    let a = after_sizes (world_of s) es (start-good s is) in
    record {
      numbers = a.numbers;
      spheres = a.spheres ∙ length-map s.spheres (sphere_of s.numbers.s);
      cores = a.cores ∙ first_length s.numbers 0 s.cores (world_of s).spheres;
      slots = a.slots ∙ length-replicate s.window None;
    }
