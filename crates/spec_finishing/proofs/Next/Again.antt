-- If the next event of finishing is a step, and its instruction ran, the next event is that step again.
use Rattle.std.proofs.Common.{◌≡◌, ℕ, ◌/◌, Bool, true, false, eqb, cond, List, [], ◌∷◌, length, Option, Some, None, refl, sym, ap, ◌∙◌, subst}
use Rattle.std.proofs.Math.Nat.{mod-eq_of_lt}
use Rattle.std.proofs.lemmas.Option.{none-some}
use Rattle.dl_entry.specs.declared.Actor.{Actor}
use Rattle.spec_isa.specs.Words.{Stored, lays, read, is_inside}
use Rattle.spec_isa.specs.Instruction.{serial_of, loads_of, next_of, load_of, store_of}
use Rattle.spec_engine.specs.declared.answers.How.{How}
use Rattle.spec_engine.specs.declared.answers.Stepped.{Stepped}
use Rattle.spec_engine.specs.Signatures.{line}
use Rattle.spec_engine.specs.Flights.{Flight, at, first_slot, bounces}
use Rattle.spec_engine.specs.Chunks.{Chunk, Stepping, closes, marked, ran, at_limit, has_room, reading, storing, loading, running, step, is_open}
use Rattle.spec_engine.proofs.Choosing.{keep_option, keep_choose}
use Rattle.spec_engine.proofs.Searches.{first_some}
use Rattle.spec_protocol.specs.declared.event.Event.{Event}
use Rattle.spec_protocol.specs.declared.reply.Reply.{Reply}
use Rattle.spec_sphere.specs.sphere.Spheres.{is_stopped}
use Rattle.spec_protocol.specs.machine.World.{World, Occupant, EventOutcome, sphere_at, runs, core_of, answered}
use Rattle.spec_protocol.specs.machine.Stepping.{reply_of_step, stepped, step_held, stepping, younger_for, step_younger}
use Rattle.spec_protocol.specs.machine.Machine.{core_no, act, with_event, happens}
use Rattle.spec_protocol.specs.machine.Finishing.{SphereTurn, least, standing, untold, deliver_or_retire, for_flight, for_held, for_core, for_actor, for_turn, for_slot, for_standing, next}
use Rattle.spec_protocol.proofs.Memory.Slots.{at-set_same, at_within}
use Rattle.spec_finishing.proofs.Next.Turns.{no-flight}
use Rattle.spec_finishing.proofs.Next.UnderWay.{OnCore, on-core}
use Rattle.spec_finishing.proofs.Next.StepRises.{step-rises}
use Rattle.spec_finishing.proofs.Next.Cores.{first_set, runs_it, step_is}

-- ---- a step leaves its chunk open, if its instruction ran

pub record Opens (s : Stepping) : Type 0 where
  pub opened : s.reply ≡ Stepped.Ran → is_open s.chunk ≡ true

closes_opens : (how : How) (ch : Chunk) → Opens (closes how ch)
closes_opens how ch = record { opened = λ e. absurd (cc) }

limit_opens : (ch : Chunk) → is_open ch ≡ true → Opens (at_limit ch)
unfolding at_limit
limit_opens ch open_ =
    keep_choose Opens (eqb ch.done.n ch.limit) (closes How.Limit ch) (record { reply = Stepped.Ran; chunk = ch })
    (λ _. closes_opens How.Limit ch)
    (λ _. record { opened = λ e. open_ })

reading_opens : (xs : List (Option Flight)) (c : ℕ) (ch : Chunk) (a : ℕ) (then_ : Chunk → Stepping) → Opens (then_ (marked ch a)) → Opens (reading xs c ch a then_)
unfolding reading
reading_opens xs c ch a then_ opens =
    keep_option Opens (first_slot (bounces c (line ch.sphere a)) xs) (then_ (marked ch a)) (λ k. record { reply = Stepped.Bounced k; chunk = ch })
    (λ _. opens)
    (λ k _. record { opened = λ e. absurd (cc) })

storing_opens : (capacity f w : ℕ) (ch : Chunk) → is_open ch ≡ true → Opens (storing capacity f w ch)
unfolding storing
storing_opens capacity f w ch open_ =
    let t = ch.done.thread in
    let next = ran ch (next_of t f w) (load_of t f w) (store_of t f w) in
    keep_choose Opens (has_room capacity ch.done.words (store_of t f w)) (at_limit next) (closes How.Overflow ch)
    (λ _. limit_opens next open_)
    (λ _. closes_opens How.Overflow ch)

loading_opens : (capacity : ℕ) (shown : List ℕ) (xs : List (Option Flight)) (c f : ℕ) (ch : Chunk) → is_open ch ≡ true → Opens (loading capacity shown xs c f ch)
unfolding loading
loading_opens capacity shown xs c f ch open_ =
    keep_option Opens (loads_of ch.done.thread f) (storing capacity f 0 ch) (λ a. reading xs c ch a (storing capacity f (read shown a)))
    (λ _. storing_opens capacity f 0 ch open_)
    (λ a _. reading_opens xs c ch a (storing capacity f (read shown a)) (storing_opens capacity f (read shown a) (marked ch a) open_))

running_opens : (capacity : ℕ) (shown : List ℕ) (xs : List (Option Flight)) (c f : ℕ) (ch : Chunk) → is_open ch ≡ true → Opens (running capacity shown xs c f ch)
unfolding running
running_opens capacity shown xs c f ch open_ =
    keep_option Opens (serial_of ch.done.thread f (length shown)) (loading capacity shown xs c f ch) (λ kind. closes How.Serial ch)
    (λ _. loading_opens capacity shown xs c f ch open_)
    (λ kind _. closes_opens How.Serial ch)

step_opens : (capacity : ℕ) (m : List ℕ) (xs : List (Option Flight)) (c : ℕ) (ch : Chunk) → is_open ch ≡ true → Opens (step capacity m xs c ch)
unfolding step
step_opens capacity m xs c ch open_ =
    let shown = lays m ch.done.words in
    let a = ch.done.thread.pc / 4 in
    keep_choose Opens (is_inside (length shown) ch.done.thread.pc) (reading xs c ch a (running capacity shown xs c (read shown a))) (closes How.Serial ch)
    (λ _. reading_opens xs c ch a (running capacity shown xs c (read shown a)) (running_opens capacity shown xs c (read shown a) (marked ch a) open_))
    (λ _. closes_opens How.Serial ch)

-- ---- if a step is next

-- no flight is left, it is a thread's turn, and that thread's chunk is open on the core
pub record StepIsNext (w : World) (c : ℕ) : Type 0 where
  pub none : standing w ≡ None
  pub sphere : ℕ
  pub thread : ℕ
  pub turn : least 0 w.spheres ≡ Some (record { sphere = sphere; actor = Actor.Thread thread })
  pub found : core_of w sphere thread ≡ Some c
  pub held : Occupant
  pub on : OnCore w sphere thread c held
  pub opened : is_open held.chunk ≡ true

told_no : (k : ℕ) (o : Option ℕ) (c : ℕ) → deliver_or_retire k o ≡ Event.Step c → ⊥
told_no k None c e = cc
told_no k (Some d) c e = cc

flight_no : (cores k : ℕ) (f : Flight) (ws : List Stored) (c : ℕ) → for_flight cores k f ws ≡ Event.Step c → ⊥
flight_no cores k f [] c e = told_no k (untold 0 cores f.told) c e
flight_no cores k f (s ∷ ss) c e = cc

open_is : (c d : ℕ) (ch : Chunk) (b : Bool) → is_open ch ≡ b → cond b (Event.Step c) (Event.Ask c) ≡ Event.Step d → (c ≡ d) × (is_open ch ≡ true)
open_is c d ch true is e = (cc, is)
open_is c d ch false is e = absurd (cc)

core_next : (w : World) (i k d : ℕ) (o : Option ℕ) → standing w ≡ None → least 0 w.spheres ≡ Some (record { sphere = i; actor = Actor.Thread k }) → core_of w i k ≡ o → for_core w i k o ≡ Some (Event.Step d) → StepIsNext w d
core_next w i k d None none turn found same = absurd (cc)
core_next w i k d (Some c) none turn found same =
    let on = on-core w i k c found in
    let x : Some (cond (is_open on.0.chunk) (Event.Step c) (Event.Ask c)) ≡ Some (Event.Step d) = sym (ap (for_held c) on.1.there) ∙ same in
    let is = open_is c d on.0.chunk (is_open on.0.chunk) refl (let y : cond (is_open on.0.chunk) (Event.Step c) (Event.Ask c) ≡ Event.Step d = cc in y) in
    record {
      none = none;
      sphere = i;
      thread = k;
      turn = turn;
      found = found ∙ ap (λ (e : ℕ). Some e) is.0;
      held = on.0;
      on = subst (λ (e : ℕ). OnCore w i k e on.0) is.0 on.1;
      opened = is.1;
    }

actor_next : (w : World) (i d : ℕ) (actor : Actor) → standing w ≡ None → least 0 w.spheres ≡ Some (record { sphere = i; actor = actor }) → for_actor w i actor ≡ Some (Event.Step d) → StepIsNext w d
actor_next w i d Actor.Dma none turn same = absurd (cc)
actor_next w i d (Actor.Thread k) none turn same = core_next w i k d (core_of w i k) none turn refl same

who_next : (w : World) (d : ℕ) (o : Option SphereTurn) → standing w ≡ None → least 0 w.spheres ≡ o → for_turn w o ≡ Some (Event.Step d) → StepIsNext w d
who_next w d None none turn same = absurd (none-some _ same)
who_next w d (Some who) none turn same = actor_next w who.sphere d who.actor none turn same

standing_next : (w : World) (d : ℕ) (o : Option ℕ) → standing w ≡ o → for_standing w o ≡ Some (Event.Step d) → StepIsNext w d
standing_next w d None none same = who_next w d (least 0 w.spheres) none refl same
standing_next w d (Some k) stands same =
    let f = first_some (λ (x : Flight). true) w.slots k stands in
    let h : Some (for_flight (length w.cores) k f.0 f.0.words) ≡ Some (Event.Step d) = sym (ap (for_slot w k) f.1) ∙ same in
    absurd (flight_no (length w.cores) k f.0 f.0.words d (let x : for_flight (length w.cores) k f.0 f.0.words ≡ Event.Step d = cc in x))

step_is_next : (w : World) (c : ℕ) → next w ≡ Some (Event.Step c) → StepIsNext w c
unfolding next
step_is_next w c same = standing_next w c (standing w) refl same

-- and there it is next
next_is_step : (w : World) (i k c : ℕ) (h : Occupant) → standing w ≡ None → least 0 w.spheres ≡ Some (record { sphere = i; actor = Actor.Thread k }) → core_of w i k ≡ Some c → at w.cores c ≡ Some h → is_open h.chunk ≡ true → next w ≡ Some (Event.Step c)
unfolding next
next_is_step w i k c h none turn found there open_ =
    ap (for_standing w) none
    ∙ ap (for_turn w) turn
    ∙ ap (for_core w i k) found
    ∙ ap (for_held c) there
    ∙ ap {A = Bool} (λ b. Some (cond b (Event.Step c) (Event.Ask c))) open_

-- ---- again

ran_is : (r : Stepped) → reply_of_step r ≡ Reply.Ran → r ≡ Stepped.Ran
ran_is Stepped.Ran e = refl
ran_is (Stepped.Closed how) e = absurd (cc)
ran_is (Stepped.Bounced k) e = absurd (cc)

-- what a step that ran leaves has the same step next
abbrev Again : (c : ℕ) → EventOutcome → Type 0
Again c a = a.reply ≡ Reply.Ran → next (with_event a) ≡ Some (Event.Step c)

stopped_is : (w : World) (c : ℕ) (h : Occupant) → at w.cores c ≡ Some h → is_stopped (sphere_at w h.chunk.sphere).role ≡ true → stepping w c ≡ answered w Reply.Stopped
unfolding stepping
stopped_is w c h is stopped =
    let s = step w.numbers.capacity (sphere_at w h.chunk.sphere).memory w.slots c h.chunk in
    ap (step_held w c) is
    ∙ ap {A = Bool} (λ b. cond b (answered w Reply.Stopped) (cond (is_open h.chunk) (stepped w c h s) (step_younger w c h (younger_for w.numbers (sphere_at w h.chunk.sphere).role h h.younger)))) stopped

step_again : (w : World) (c : ℕ) (n : StepIsNext w c) (b : Bool) → is_stopped (sphere_at w n.held.chunk.sphere).role ≡ b → Again c (stepping w c)
step_again w c n true stopped = subst (Again c) (sym (stopped_is w c n.held n.on.there stopped)) (λ e. absurd (cc))
step_again w c n false going =
    let h = n.held in
    let s = step w.numbers.capacity (sphere_at w h.chunk.sphere).memory w.slots c h.chunk in
    let g : Occupant = record h { chunk = s.chunk } in
    let r = step-rises w.numbers.capacity (sphere_at w h.chunk.sphere).memory w.slots c h.chunk (no-flight w n.none) in
    let o = step_opens w.numbers.capacity (sphere_at w h.chunk.sphere).memory w.slots c h.chunk n.opened in
    let l = at_within w.cores c h n.on.there in
    subst (Again c) (sym (step_is w c h n.on.there going n.opened))
    (λ e. next_is_step (with_event (stepped w c h s)) n.sphere n.thread c g n.none n.turn
    (first_set (runs n.sphere n.thread) w.cores c g n.found l (runs_it n.sphere n.thread g (r.sphere ∙ n.on.sphere) n.on.thread))
    (at-set_same w.cores c (Some g) l)
    (o.opened (ran_is s.reply e)))

-- the step whose instruction ran is next again
pub ran_again : (w : World) (c : ℕ) → next w ≡ Some (Event.Step c) → (happens w (Event.Step c)).reply ≡ Reply.Ran → next (happens w (Event.Step c)).world ≡ Some (Event.Step c)
unfolding happens act
ran_again w c is ran =
    let n = step_is_next w c is in
    let same : core_no w c ≡ c = mod-eq_of_lt (at_within w.cores c n.held n.on.there) in
    subst (λ (d : ℕ). Again c (stepping w d)) (sym same) (step_again w c n (is_stopped (sphere_at w n.held.chunk.sphere).role) refl) ran
