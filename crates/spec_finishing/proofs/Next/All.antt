-- Whatever the next event of finishing is, it is done and reduces what is left; and if there is none, all is finished.
use Rattle.std.proofs.Common.{◌≡◌, ℕ, ◌+◌, ◌<◌, ◌≤◌, Bool, true, false, cond, length, Option, Some, None, refl, sym, ap, ◌∙◌, subst, arith}
use Rattle.std.specs.Prelude.{slice_get}
use Rattle.std.proofs.Math.Nat.{mod-eq_of_lt}
use Rattle.std.proofs.lemmas.Bool.{true≢false}
use Rattle.std.proofs.lemmas.Option.{none-some}
use Rattle.dl_entry.specs.declared.Actor.{Actor}
use Rattle.spec_engine.specs.declared.answers.How.{How}
use Rattle.spec_engine.specs.Flights.{Flight, at}
use Rattle.spec_engine.specs.Chunks.{Chunk, is_open}
use Rattle.spec_engine.proofs.Searches.{first_some}
use Rattle.spec_protocol.specs.declared.event.Event.{Event}
use Rattle.spec_sphere.specs.sphere.Spheres.{Sphere, replays}
use Rattle.spec_protocol.specs.machine.World.{World, Occupant, EventOutcome, sphere_at, core_of}
use Rattle.spec_protocol.specs.machine.Stepping.{stepping}
use Rattle.spec_protocol.specs.machine.Asking.{asking}
use Rattle.spec_protocol.specs.machine.Transferring.{transferring}
use Rattle.spec_protocol.specs.machine.Machine.{Setup, core_no, sphere_no, act, happens}
use Rattle.spec_protocol.specs.machine.Shown.{shown_of}
use Rattle.spec_protocol.specs.machine.Finishing.{SphereTurn, least, standing, for_flight, for_held, for_core, for_actor, for_turn, for_slot, for_standing, next}
use Rattle.spec_protocol.proofs.Memory.Slots.{at_within}
use Rattle.spec_protocol.proofs.Moves.AnyEvent.{any-step}
use Rattle.spec_finishing.specs.Rank.{held_under_way, core_under_way, actor_under_way, under_way}
use Rattle.spec_finishing.specs.Ending.{OfReplay, IsFinished}
use Rattle.spec_finishing.proofs.Left.Slots.{one_unless, one_at_most}
use Rattle.spec_finishing.proofs.Ending.Knowing.{Known}
use Rattle.spec_finishing.proofs.Left.Spending.{happens-less}
use Rattle.spec_finishing.proofs.Next.Turns.{no-flight, least-none, HasActor, has-actor}
use Rattle.spec_finishing.proofs.Next.UnderWay.{OnCore, on-core, under_way-actor}
use Rattle.spec_finishing.proofs.Next.Cores.{StepRose, step-rose}
use Rattle.spec_finishing.proofs.Next.Commits.{Commits, ask-commits, dma-commits}
use Rattle.spec_finishing.proofs.Next.Events.{Lowers, words_fall, rose_falls, place_act}

-- what is under way on the core of the thread whose turn it is
under_way_on : (w : World) (who : SphereTurn) (k c : ℕ) (h : Occupant) → standing w ≡ None → least 0 w.spheres ≡ Some who → who.actor ≡ Actor.Thread k → core_of w who.sphere k ≡ Some c → at w.cores c ≡ Some h → under_way w ≡ held_under_way (Some h)
under_way_on w who k c h none is thread found there =
    under_way-actor w who none is ∙ ap (actor_under_way w who.sphere) thread ∙ ap (core_under_way w) found ∙ ap held_under_way there

core_is : (w : World) (c : ℕ) (h : Occupant) → at w.cores c ≡ Some h → core_no w c ≡ c
core_is w c h there = mod-eq_of_lt (at_within w.cores c h there)

-- ---- Step

step_move : (w : World) (c : ℕ) → (stepping w c).move ≡ None
step_move w c = any-step w (λ (a : EventOutcome). a.move ≡ None) (λ r none. refl) c (λ h is opened. refl) (λ h y is e opened. refl)

step_act : (s : Setup) (w : World) (who : SphereTurn) (k c : ℕ) (h : Occupant) → Known s w → Known s (happens w (Event.Step c)).world → standing w ≡ None → least 0 w.spheres ≡ Some who → who.actor ≡ Actor.Thread k → core_of w who.sphere k ≡ Some c → OnCore w who.sphere k c h → is_open h.chunk ≡ true
    → Lowers s w (Event.Step c)
unfolding act
step_act s w who k c h known next_known none is thread found on open_ =
    let a : HasActor s w who.sphere (Actor.Thread k) = subst (HasActor s w who.sphere) thread (has-actor s w who known none is) in
    let r : StepRose w who.sphere k h.chunk.done.n (act w (Event.Step c)) = (
    subst (λ (d : ℕ). StepRose w who.sphere k h.chunk.done.n (stepping w d)) (sym (core_is w c h on.there)) (step-rose s w who.sphere k c h none a on found open_)
    ) in
    let was = under_way_on w who k c h none is thread found on.there in
    let zero_ = ap one_unless open_ in
    let more = r.more in
    rose_falls s w who k (Event.Step c) known next_known none is thread r.rose (step_move w (core_no w c)) (omega (arith, was, zero_, more))

-- ---- Ask and Dma

move_is : (w : World) (e : Event) (i n : ℕ) → Commits i n (act w e) → Commits i n (happens w e)
unfolding happens
move_is w e i n c = record { done = c.done; move = c.move; is = c.is; sphere = c.sphere; more = c.more }

commit_falls : (s : Setup) (w : World) (e : Event) (who : SphereTurn) (n : ℕ) → Known s w → Known s (happens w e).world → standing w ≡ None → least 0 w.spheres ≡ Some who → Commits who.sphere n (act w e) → under_way w ≤ n + 2 → Lowers s w e
commit_falls s w e who n known next_known none is commits few =
    let a = has-actor s w who known none is in
    let c = move_is w e who.sphere n commits in
    let less = happens-less s w e c.move a.sphere a.cursor known c.is (ap (slice_get (shown_of w).spheres) c.sphere ∙ a.shows) a.role in
    let more = c.more in
    record {
      done = c.done;
      less = omega (arith, less, more, few);
      alone = subst (OfReplay w) (sym c.is)
          (ap (λ (j : ℕ). replays (sphere_at w j).role) c.sphere ∙ ap (λ (p : Sphere). replays p.role) a.at ∙ ap replays a.role);
    }

closed_is : (ch : Chunk) → is_open ch ≡ false → (how : How) × (ch.closed ≡ Some how)
closed_is ch e =
    elim ch.closed as (λ (o : Option How). elim o as (λ (q : Option How). Bool) [ None ↦ true | Some how ↦ false ] ≡ false → (how : How) × (o ≡ Some how)) [
      | None ↦ λ h. absurd (true≢false h)
      | Some how ↦ λ h. (how, refl)
    ] e

ask_act : (s : Setup) (w : World) (who : SphereTurn) (k c : ℕ) (h : Occupant) → Known s w → Known s (happens w (Event.Ask c)).world → 0 < s.window → standing w ≡ None → least 0 w.spheres ≡ Some who → who.actor ≡ Actor.Thread k → core_of w who.sphere k ≡ Some c → OnCore w who.sphere k c h → is_open h.chunk ≡ false
    → Lowers s w (Event.Ask c)
unfolding act
ask_act s w who k c h known next_known window none is thread found on closed =
    let a : HasActor s w who.sphere (Actor.Thread k) = subst (HasActor s w who.sphere) thread (has-actor s w who known none is) in
    let how = closed_is h.chunk closed in
    let slots : 0 < length w.slots = (let e = known.sizes.slots in omega (arith, window, e)) in
    let commits : Commits who.sphere h.chunk.done.n (act w (Event.Ask c)) = (
    subst (λ (d : ℕ). Commits who.sphere h.chunk.done.n (asking w d)) (sym (core_is w c h on.there)) (ask-commits s w who.sphere k c h how.0 none slots a on how.1)
    ) in
    let was = under_way_on w who k c h none is thread found on.there in
    let one = one_at_most (is_open h.chunk) in
    commit_falls s w (Event.Ask c) who h.chunk.done.n known next_known none is commits (omega (arith, was, one))

dma_act : (s : Setup) (w : World) (who : SphereTurn) → Known s w → Known s (happens w (Event.Dma who.sphere)).world → 0 < s.window → standing w ≡ None → least 0 w.spheres ≡ Some who → who.actor ≡ Actor.Dma → Lowers s w (Event.Dma who.sphere)
unfolding act
dma_act s w who known next_known window none is dma =
    let a : HasActor s w who.sphere Actor.Dma = subst (HasActor s w who.sphere) dma (has-actor s w who known none is) in
    let slots : 0 < length w.slots = (let e = known.sizes.slots in omega (arith, window, e)) in
    let sphere : sphere_no w who.sphere ≡ who.sphere = mod-eq_of_lt a.within in
    let commits : Commits who.sphere 0 (act w (Event.Dma who.sphere)) = (
    subst (λ (j : ℕ). Commits who.sphere 0 (transferring w j)) (sym sphere) (dma-commits s w who.sphere none slots a)
    ) in
    let was = under_way-actor w who none is ∙ ap (actor_under_way w who.sphere) dma in
    commit_falls s w (Event.Dma who.sphere) who 0 known next_known none is commits (omega (arith, was))

-- ---- the next event

-- of a world from which each event leads to one of the run
pub record Goes (s : Setup) (w : World) : Type 0 where
  pub known : Known s w
  pub next_known : (e : Event) → Known s (happens w e).world
  pub cores : 0 < s.cores
  pub window : 0 < s.window

open_falls : (s : Setup) (w : World) (who : SphereTurn) (k c : ℕ) (h : Occupant) (e : Event) (b : Bool) → Goes s w → standing w ≡ None → least 0 w.spheres ≡ Some who → who.actor ≡ Actor.Thread k → core_of w who.sphere k ≡ Some c → OnCore w who.sphere k c h → is_open h.chunk ≡ b → cond b (Event.Step c) (Event.Ask c) ≡ e → Lowers s w e
open_falls s w who k c h e true g none is thread found on open_ same = subst (Lowers s w) same (step_act s w who k c h g.known (g.next_known (Event.Step c)) none is thread found on open_)
open_falls s w who k c h e false g none is thread found on open_ same = subst (Lowers s w) same (ask_act s w who k c h g.known (g.next_known (Event.Ask c)) g.window none is thread found on open_)

core_falls : (s : Setup) (w : World) (who : SphereTurn) (k : ℕ) (e : Event) (o : Option ℕ) → Goes s w → standing w ≡ None → least 0 w.spheres ≡ Some who → who.actor ≡ Actor.Thread k → core_of w who.sphere k ≡ o → for_core w who.sphere k o ≡ Some e → Lowers s w e
core_falls s w who k e None g none is thread found same =
    let h : Event.Place 0 who.sphere k ≡ e = cc in
    subst (Lowers s w) h (place_act s w who k g.known (g.next_known (Event.Place 0 who.sphere k)) g.cores none is thread found)
core_falls s w who k e (Some c) g none is thread found same =
    let on = on-core w who.sphere k c found in
    let h : Some (cond (is_open on.0.chunk) (Event.Step c) (Event.Ask c)) ≡ Some e = sym (ap (for_held c) on.1.there) ∙ same in
    open_falls s w who k c on.0 e (is_open on.0.chunk) g none is thread found on.1 refl (let x : cond (is_open on.0.chunk) (Event.Step c) (Event.Ask c) ≡ e = cc in x)

actor_falls : (s : Setup) (w : World) (who : SphereTurn) (e : Event) (actor : Actor) → Goes s w → standing w ≡ None → least 0 w.spheres ≡ Some who → who.actor ≡ actor → for_actor w who.sphere actor ≡ Some e → Lowers s w e
actor_falls s w who e Actor.Dma g none is turn same =
    let h : Event.Dma who.sphere ≡ e = cc in
    subst (Lowers s w) h (dma_act s w who g.known (g.next_known (Event.Dma who.sphere)) g.window none is turn)
actor_falls s w who e (Actor.Thread k) g none is turn same = core_falls s w who k e (core_of w who.sphere k) g none is turn refl same

who_falls : (s : Setup) (w : World) (e : Event) (o : Option SphereTurn) → Goes s w → standing w ≡ None → least 0 w.spheres ≡ o → for_turn w o ≡ Some e → Lowers s w e
who_falls s w e None g none is same = absurd (none-some e same)
who_falls s w e (Some who) g none is same = actor_falls s w who e who.actor g none is refl same

standing_falls : (s : Setup) (w : World) (e : Event) (o : Option ℕ) → Goes s w → standing w ≡ o → for_standing w o ≡ Some e → Lowers s w e
standing_falls s w e None g none same = who_falls s w e (least 0 w.spheres) g none refl same
standing_falls s w e (Some k) g stands same =
    let f = first_some (λ (x : Flight). true) w.slots k stands in
    let h : Some (for_flight (length w.cores) k f.0 f.0.words) ≡ Some e = sym (ap (for_slot w k) f.1) ∙ same in
    subst (Lowers s w) (let x : for_flight (length w.cores) k f.0 f.0.words ≡ e = cc in x) (words_fall s w k f.0 f.0.words g.known stands f.1 refl)

-- the next event of finishing is done and leaves less
pub next-falls : (s : Setup) (w : World) (e : Event) → Goes s w → next w ≡ Some e → Lowers s w e
unfolding next
next-falls s w e g same = standing_falls s w e (standing w) g refl same

-- ---- without one

actor_next : (w : World) (i : ℕ) (actor : Actor) → for_actor w i actor ≡ None → ⊥
actor_next w i Actor.Dma e = none-some _ (sym e)
actor_next w i (Actor.Thread k) e = core_next w i k (core_of w i k) refl e
  where
    core_next : (w : World) (i k : ℕ) (o : Option ℕ) → core_of w i k ≡ o → for_core w i k o ≡ None → ⊥
    core_next w i k None found e = none-some _ (sym e)
    core_next w i k (Some c) found e = let on = on-core w i k c found in none-some _ (sym (sym (ap (for_held c) on.1.there) ∙ e))

who_next : (w : World) (o : Option SphereTurn) → for_turn w o ≡ None → o ≡ None
who_next w None e = refl
who_next w (Some who) e = absurd (actor_next w who.sphere who.actor e)

standing_next : (w : World) (o : Option ℕ) → standing w ≡ o → for_standing w o ≡ None → (standing w ≡ None) × (least 0 w.spheres ≡ None)
standing_next w None none e = (none, who_next w (least 0 w.spheres) e)
standing_next w (Some k) stands e =
    let f = first_some (λ (x : Flight). true) w.slots k stands in absurd (none-some _ (sym (sym (ap (for_slot w k) f.1) ∙ e)))

-- if there is no next event, all is finished
pub next-none : (w : World) → next w ≡ None → IsFinished w
unfolding next
next-none w e =
    let r = standing_next w (standing w) refl e in
    record { flights = no-flight w r.0; replays = least-none 0 w.spheres r.1 }

-- if there is no next event, no flight is left
pub next-stands : (w : World) → next w ≡ None → standing w ≡ None
unfolding next
next-stands w e = (standing_next w (standing w) refl e).0
