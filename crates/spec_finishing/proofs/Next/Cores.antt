-- If no flight is left and it is a thread's turn, placing it or stepping its chunk reduces what is left.
use Rattle.std.proofs.Common.{◌≡◌, ℕ, suc, ◌<◌, Bool, true, false, eqb, cond, List, length, Option, Some, None, refl, sym, ap, ◌∙◌, subst, arith, set}
use Rattle.std.specs.Prelude.{slice_get}
use Rattle.std.proofs.Math.ListN.{length-set}
use Rattle.std.proofs.lemmas.Bool.{and_from, eq-eqb}
use Rattle.dl_entry.specs.declared.Actor.{Actor}
use Rattle.spec_isa.specs.declared.thread.Parts.{Parts}
use Rattle.spec_kernel.specs.Interrupts.{is_live}
use Rattle.spec_engine.specs.Flights.{at, passes, first_slot}
use Rattle.spec_engine.specs.Chunks.{step, is_open, fresh}
use Rattle.spec_engine.proofs.Searches.{first_least, first_is}
use Rattle.spec_protocol.specs.declared.reply.Reply.{Reply}
use Rattle.spec_sphere.specs.sphere.Spheres.{Sphere, is_stopped, limit_of, halves}
use Rattle.spec_protocol.specs.machine.World.{World, Occupant, EventOutcome, sphere_at, with_core, thread_afresh, held_afresh, runs, core_of, answered}
use Rattle.spec_protocol.specs.machine.Stepping.{stepped, step_held, stepping, younger_for, step_younger}
use Rattle.spec_protocol.specs.machine.Placing.{unless_elsewhere, place_thread, placing}
use Rattle.spec_protocol.specs.machine.Machine.{Setup}
use Rattle.spec_protocol.specs.machine.Finishing.{standing}
use Rattle.spec_protocol.proofs.Memory.Slots.{at-set_same, at-set_other, at_within}
use Rattle.spec_finishing.specs.Rank.{held_under_way}
use Rattle.spec_finishing.specs.Ending.{furthers_finishing}
use Rattle.spec_finishing.proofs.Paying.GoingOn.{thread-live}
use Rattle.spec_finishing.proofs.Next.Turns.{no-flight, HasActor, turn-of}
use Rattle.spec_finishing.proofs.Next.UnderWay.{OnCore}
use Rattle.spec_finishing.proofs.Next.StepRises.{step-rises}

-- ---- the core of the thread

passes_no : {A : Type 0} (p : A → Bool) (o : Option A) → ((x : A) → o ≡ Some x → p x ≡ false) → passes p o ≡ false
passes_no p None each = refl
passes_no p (Some x) each = each x refl

-- what is put where the search ended is found again
pub first_set : {A : Type 0} (p : A → Bool) (xs : List (Option A)) (c : ℕ) (v : A) → first_slot p xs ≡ Some c → c < length xs → p v ≡ true → first_slot p (set xs c (Some v)) ≡ Some c
first_set p xs c v found l e =
    sym (first_is p (set xs c (Some v)) c (let h = length-set xs c (Some v) in omega (arith, h))
    (λ j m. ap (passes p) (at-set_other xs c j (Some v) (λ h. omega arith)) ∙ passes_no p (at xs j) (λ x h. first_least p xs c found j x m h))
    (ap (passes p) (at-set_same xs c (Some v) l) ∙ e))

-- what is put in the first place is found, if nothing was
first_put : {A : Type 0} (p : A → Bool) (xs : List (Option A)) (v : A) → 0 < length xs → p v ≡ true → first_slot p (set xs 0 (Some v)) ≡ Some 0
first_put p xs v l e =
    sym (first_is p (set xs 0 (Some v)) 0 (let h = length-set xs 0 (Some v) in omega (arith, h)) (λ j m. absurd (omega arith)) (ap (passes p) (at-set_same xs 0 (Some v) l) ∙ e))

-- an occupant of this sphere and thread is what is looked for
pub runs_it : (i k : ℕ) (h : Occupant) → h.chunk.sphere ≡ i → h.thread ≡ k → runs i k h ≡ true
runs_it i k h sphere thread = and_from (eqb h.chunk.sphere i) (eqb h.thread k) (eq-eqb h.chunk.sphere i sphere) (eq-eqb h.thread k thread)

-- ---- one core changes

-- the event is done, changes only core c, which then runs the thread, and more is under way
pub record Rose (w : World) (i k : ℕ) (a : EventOutcome) : Type 0 where
  pub done : furthers_finishing a.reply ≡ true
  pub core : ℕ
  pub held : Occupant
  pub is : a.world ≡ with_core w core (Some held)
  pub found : core_of a.world i k ≡ Some core
  pub there : at a.world.cores core ≡ Some held

-- ---- Step

-- an open chunk of a sphere that goes on is stepped
pub step_is : (w : World) (c : ℕ) (h : Occupant) → at w.cores c ≡ Some h → is_stopped (sphere_at w h.chunk.sphere).role ≡ false → is_open h.chunk ≡ true
    → stepping w c ≡ stepped w c h (step w.numbers.capacity (sphere_at w h.chunk.sphere).memory w.slots c h.chunk)
unfolding stepping
step_is w c h is going open_ =
    let s = step w.numbers.capacity (sphere_at w h.chunk.sphere).memory w.slots c h.chunk in
    let closed = step_younger w c h (younger_for w.numbers (sphere_at w h.chunk.sphere).role h h.younger) in
    ap (step_held w c) is
    ∙ ap {A = Bool} (λ b. cond b (answered w Reply.Stopped) (cond (is_open h.chunk) (stepped w c h s) closed)) going
    ∙ ap {A = Bool} (λ b. cond b (stepped w c h s) closed) open_

-- the step's chunk has got further
pub record StepRose (w : World) (i k : ℕ) (n : ℕ) (a : EventOutcome) : Type 0 where
  pub rose : Rose w i k a
  pub more : suc n < held_under_way (Some rose.held)

step_rose : (w : World) (i k c : ℕ) (h : Occupant) → standing w ≡ None → OnCore w i k c h → core_of w i k ≡ Some c → StepRose w i k h.chunk.done.n (stepped w c h (step w.numbers.capacity (sphere_at w h.chunk.sphere).memory w.slots c h.chunk))
step_rose w i k c h none on found =
    let s = step w.numbers.capacity (sphere_at w h.chunk.sphere).memory w.slots c h.chunk in
    let r = step-rises w.numbers.capacity (sphere_at w h.chunk.sphere).memory w.slots c h.chunk (no-flight w none) in
    let g : Occupant = record h { chunk = s.chunk } in
    let l = at_within w.cores c h on.there in
    record {
      rose = record {
        done = r.done;
        core = c;
        held = g;
        is = refl;
        found = first_set (runs i k) w.cores c g found l (runs_it i k g (r.sphere ∙ on.sphere) on.thread);
        there = at-set_same w.cores c (Some g) l;
      };
      more = (let m = r.more in omega (arith, m));
    }

-- a step of the chunk of the thread whose turn it is runs an instruction or closes the chunk
pub step-rose : (s : Setup) (w : World) (i k c : ℕ) (h : Occupant) → standing w ≡ None → HasActor s w i (Actor.Thread k) → OnCore w i k c h → core_of w i k ≡ Some c → is_open h.chunk ≡ true → StepRose w i k h.chunk.done.n (stepping w c)
step-rose s w i k c h none a on found open_ =
    let going : is_stopped (sphere_at w h.chunk.sphere).role ≡ false = ap (λ (j : ℕ). is_stopped (sphere_at w j).role) on.sphere ∙ ap (λ (p : Sphere). is_stopped p.role) a.at ∙ ap is_stopped a.role ∙ a.going in
    subst (StepRose w i k h.chunk.done.n) (sym (step_is w c h on.there going open_)) (step_rose w i k c h none on found)

-- ---- Place

-- the thread is live
thread_lives : (s : Setup) (w : World) (i k : ℕ) → HasActor s w i (Actor.Thread k) → (t : Parts) × (slice_get (sphere_at w i).threads k ≡ Some t) × (is_live t ≡ true)
thread_lives s w i k a =
    let h = thread-live a.image a.sphere a.cursor k a.goes (turn-of s w i k a) in
    (h.0, ap (λ (p : Sphere). slice_get p.threads k) a.at ∙ h.1, h.2)

-- its chunk, which has run nothing
abbrev new_held : World → (i k : ℕ) → Parts → Occupant
new_held w i k t =
    let p = sphere_at w i in
    record { thread = k; chunk = fresh w.numbers.bits i t (limit_of w.numbers.s p.role k t) (halves p.role); younger = None }

chunk_is : (w : World) (i k : ℕ) (t : Parts) → slice_get (sphere_at w i).threads k ≡ Some t → is_live t ≡ true → held_afresh w.numbers i k (sphere_at w i) ≡ Some (new_held w i k t)
chunk_is w i k t is live =
    ap (thread_afresh w.numbers i k (sphere_at w i)) is ∙ ap {A = Bool} (λ b. cond b (Some (new_held w i k t)) None) live

place_is : (w : World) (c i k : ℕ) (t : Parts) → slice_get (sphere_at w i).threads k ≡ Some t → is_live t ≡ true → core_of w i k ≡ None → placing w c i k ≡ answered (with_core w c (Some (new_held w i k t))) Reply.Placed
unfolding placing
place_is w c i k t is live none =
    let placed = λ (o : Option Occupant). answered (with_core w c o) Reply.Placed in
    let new = held_afresh w.numbers i k (sphere_at w i) in
    ap (place_thread w c i k) is
    ∙ ap {A = Bool} (λ b. cond b (unless_elsewhere (core_of w i k) w (placed new)) (answered w Reply.Ended)) live
    ∙ ap (λ (o : Option ℕ). unless_elsewhere o w (placed new)) none
    ∙ ap placed (chunk_is w i k t is live)

place_rose : (w : World) (i k : ℕ) (t : Parts) → 0 < length w.cores → Rose w i k (answered (with_core w 0 (Some (new_held w i k t))) Reply.Placed)
place_rose w i k t l =
    let g = new_held w i k t in
    record {
      done = refl;
      core = 0;
      held = g;
      is = refl;
      found = first_put (runs i k) w.cores g l (runs_it i k g refl refl);
      there = at-set_same w.cores 0 (Some g) l;
    }

-- placing the thread whose turn it is begins its chunk
pub place-rose : (s : Setup) (w : World) (i k : ℕ) → 0 < length w.cores → HasActor s w i (Actor.Thread k) → core_of w i k ≡ None → Rose w i k (placing w 0 i k)
place-rose s w i k l a none =
    let t = thread_lives s w i k a in
    subst (Rose w i k) (sym (place_is w 0 i k t.0 t.1 t.2 none)) (place_rose w i k t.0 l)
