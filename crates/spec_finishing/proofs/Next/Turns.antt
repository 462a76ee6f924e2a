-- If no flight is left: the replay whose turn it is, which is shown as it is.
use Rattle.std.proofs.Common.{◌≡◌, ℕ, zero, suc, ◌+◌, ◌<◌, true, false, List, [], ◌∷◌, length, Option, Some, None, refl, sym, ap, ◌∙◌, subst, arith, get_or}
use Rattle.std.specs.Prelude.{slice_get}
use Rattle.std.proofs.lemmas.Bool.{true≢false}
use Rattle.std.proofs.lemmas.Option.{none-some}
use Rattle.dl_entry.specs.declared.Actor.{Actor}
use Rattle.spec_isa.specs.Words.{lays}
use Rattle.spec_engine.specs.Flights.{Flight, at}
use Rattle.spec_engine.proofs.Searches.{first_none}
use Rattle.spec_play.specs.Turns.{TurnOrEnd, Turn, TurnOfDma, Ended}
use Rattle.spec_sphere.specs.sphere.Spheres.{Cursor, Role, Plain, Record, Replay, Sphere, no_sphere, is_over, actor_of}
use Rattle.spec_protocol.specs.machine.World.{World, sphere_at}
use Rattle.spec_sphere.specs.sphere.Setups.{SphereSetup}
use Rattle.spec_protocol.specs.machine.Machine.{Setup}
use Rattle.spec_engine.specs.Flying.{flying}
use Rattle.spec_protocol.specs.machine.Shown.{shown, shown_from, shown_of}
use Rattle.spec_protocol.specs.machine.Finishing.{SphereTurn, named_turn, turn_of_role, least, standing}
use Rattle.spec_finishing.specs.Ending.{IsAtEnd}
use Rattle.spec_finishing.proofs.Paying.GoingOn.{GoesOn}
use Rattle.spec_finishing.proofs.Left.AnyAsk.{nothing_flies}
use Rattle.spec_finishing.proofs.Ending.Knowing.{Known}

-- ---- the lowest replay that still goes on

pub record FoundIn (i : ℕ) (ps : List Sphere) (who : SphereTurn) : Type 0 where
  pub index : ℕ
  pub sphere : Sphere
  pub cursor : Cursor
  pub is : who.sphere ≡ i + index
  pub there : slice_get ps index ≡ Some sphere
  pub role : sphere.role ≡ Replay cursor
  pub actor : actor_of cursor.now ≡ Some who.actor

found_later : (i : ℕ) (p : Sphere) (ps : List Sphere) (who : SphereTurn) → FoundIn (suc i) ps who → FoundIn i (p ∷ ps) who
found_later i p ps who f =
    record {
      index = suc f.index;
      sphere = f.sphere;
      cursor = f.cursor;
      is = (let e = f.is in omega (arith, e));
      there = f.there;
      role = f.role;
      actor = f.actor;
    }

found_now : (i : ℕ) (p : Sphere) (ps : List Sphere) (who : SphereTurn) (b : Cursor) (o : Option Actor) → p.role ≡ Replay b → actor_of b.now ≡ o → named_turn i o (least (suc i) ps) ≡ Some who → (least (suc i) ps ≡ Some who → FoundIn i (p ∷ ps) who) → FoundIn i (p ∷ ps) who
found_now i p ps who b None role is e later = later e
found_now i p ps who b (Some actor) role is e later =
    let h : record { sphere = i; actor = actor } ≡ who = cc in
    record {
      index = 0;
      sphere = p;
      cursor = b;
      is = (let x = ap (λ (y : SphereTurn). y.sphere) h in omega (arith, x));
      there = refl;
      role = role;
      actor = is ∙ ap (λ (y : SphereTurn). Some y.actor) h;
    }

found_by : (i : ℕ) (p : Sphere) (ps : List Sphere) (who : SphereTurn) (role : Role) → p.role ≡ role → turn_of_role i role (least (suc i) ps) ≡ Some who → (least (suc i) ps ≡ Some who → FoundIn i (p ∷ ps) who) → FoundIn i (p ∷ ps) who
found_by i p ps who Plain is e later = later e
found_by i p ps who (Record recording) is e later = later e
found_by i p ps who (Replay b) is e later = found_now i p ps who b (actor_of b.now) is refl e later

-- the lowest replay found to go on is one of the spheres, and its actor has the turn
pub least-some : (i : ℕ) (ps : List Sphere) (who : SphereTurn) → least i ps ≡ Some who → FoundIn i ps who
least-some i [] who e = absurd (none-some who e)
least-some i (p ∷ ps) who e = found_by i p ps who p.role refl e (λ h. found_later i p ps who (least-some (suc i) ps who h))

over_now : (now : TurnOrEnd) → actor_of now ≡ None → is_over now ≡ true
over_now (Turn k) e = absurd (none-some (Actor.Thread k) (sym e))
over_now TurnOfDma e = absurd (none-some Actor.Dma (sym e))
over_now (Ended how) e = refl

ends_in : (i : ℕ) (b : Cursor) (o : Option Actor) (others : Option SphereTurn) → actor_of b.now ≡ o → named_turn i o others ≡ None → IsAtEnd (Replay b) × (others ≡ None)
ends_in i b None others is e = (over_now b.now is, e)
ends_in i b (Some actor) others is e = absurd (none-some _ (sym e))

ends_of : (i : ℕ) (role : Role) (others : Option SphereTurn) → turn_of_role i role others ≡ None → IsAtEnd role × (others ≡ None)
ends_of i Plain others e = (tt, e)
ends_of i (Record recording) others e = (tt, e)
ends_of i (Replay b) others e = ends_in i b (actor_of b.now) others refl e

-- if no sphere is the next to go on, no replay is short of its end
pub least-none : (i : ℕ) (ps : List Sphere) → least i ps ≡ None → (j : ℕ) (p : Sphere) → slice_get ps j ≡ Some p → IsAtEnd p.role
least-none i [] e j p is = absurd (none-some p is)
least-none i (q ∷ ps) e zero p is =
    let h : q ≡ p = cc in subst (λ (y : Sphere). IsAtEnd y.role) h (ends_of i q.role (least (suc i) ps) e).0
least-none i (q ∷ ps) e (suc j) p is = least-none (suc i) ps (ends_of i q.role (least (suc i) ps) e).1 j p is

-- ---- no flight is left

-- if no flight is left, every slot is free
pub no-flight : (w : World) → standing w ≡ None → (k : ℕ) → at w.slots k ≡ None
no-flight w none k = empty_slot w none k (at w.slots k) refl
  where
    empty_slot : (w : World) → standing w ≡ None → (k : ℕ) (o : Option Flight) → at w.slots k ≡ o → o ≡ None
    empty_slot w none k None e = refl
    empty_slot w none k (Some f) e = absurd (true≢false (first_none (λ (g : Flight). true) w.slots none k f e))

itself : (xs : List (Option Flight)) (i : ℕ) (p : Sphere) → ((j : ℕ) → flying j xs ≡ []) → shown xs i p ≡ p
unfolding shown
itself xs i p empty = (λ j. record p { memory = lays p.memory (empty i j) })

shown_itself : (xs : List (Option Flight)) (n : ℕ) (ps : List Sphere) → ((j : ℕ) → flying j xs ≡ []) → shown_from xs n ps ≡ ps
shown_itself xs n [] empty = refl
shown_itself xs n (p ∷ ps) empty = (λ j. itself xs n p empty j ∷ shown_itself xs (suc n) ps empty j)

-- if no flight is left, the spheres are shown as they are
pub shown-itself : (w : World) → standing w ≡ None → (shown_of w).spheres ≡ w.spheres
shown-itself w none =
    shown_itself w.slots 0 w.spheres (λ i. nothing_flies i w.slots (λ k f e. absurd (none-some f (sym (no-flight w none k) ∙ e))))

-- ---- whose turn

get_is : (ps : List Sphere) (i : ℕ) (p : Sphere) → slice_get ps i ≡ Some p → (get_or ps i no_sphere ≡ p) × (i < length ps)
get_is [] i p e = absurd (none-some p e)
get_is (q ∷ ps) zero p e = (cc, omega arith)
get_is (q ∷ ps) (suc i) p e = let r = get_is ps i p e in (r.0, let l = r.1 in omega (arith, l))

-- sphere i is a replay that goes on, and it is the actor's turn
pub record HasActor (s : Setup) (w : World) (i : ℕ) (actor : Actor) : Type 0 where
  pub image : SphereSetup
  pub sphere : Sphere
  pub cursor : Cursor
  pub there : slice_get w.spheres i ≡ Some sphere
  pub shows : slice_get (shown_of w).spheres i ≡ Some sphere
  pub at : sphere_at w i ≡ sphere
  pub within : i < length w.spheres
  pub starts : slice_get s.spheres i ≡ Some image
  pub role : sphere.role ≡ Replay cursor
  pub turn : actor_of cursor.now ≡ Some actor
  pub going : is_over cursor.now ≡ false
  pub goes : GoesOn image sphere cursor

going_now : (now : TurnOrEnd) (actor : Actor) → actor_of now ≡ Some actor → is_over now ≡ false
going_now (Turn k) actor e = refl
going_now TurnOfDma actor e = refl
going_now (Ended how) actor e = absurd (none-some actor e)

-- the replay that is to go on next has the actor whose turn it is
pub has-actor : (s : Setup) (w : World) (who : SphereTurn) → Known s w → standing w ≡ None → least 0 w.spheres ≡ Some who → HasActor s w who.sphere who.actor
has-actor s w who known none e =
    let f = least-some 0 w.spheres who e in
    let same : who.sphere ≡ f.index = (let x = f.is in omega (arith, x)) in
    let there : slice_get w.spheres who.sphere ≡ Some f.sphere = ap (slice_get w.spheres) same ∙ f.there in
    let shows : slice_get (shown_of w).spheres who.sphere ≡ Some f.sphere = ap (λ (ps : List Sphere). slice_get ps who.sphere) (shown-itself w none) ∙ there in
    let image = known.stands.images who.sphere f.sphere shows in
    let going = going_now f.cursor.now who.actor f.actor in
    let at = get_is w.spheres who.sphere f.sphere there in
    record {
      image = image.0;
      sphere = f.sphere;
      cursor = f.cursor;
      there = there;
      shows = shows;
      at = at.0;
      within = at.1;
      starts = image.1;
      role = f.role;
      turn = f.actor;
      going = going;
      goes = known.stands.goes who.sphere image.0 f.sphere f.cursor image.1 shows f.role going;
    }

thread_turn : (now : TurnOrEnd) (k : ℕ) → actor_of now ≡ Some (Actor.Thread k) → now ≡ Turn k
thread_turn (Turn j) k e = let h : j ≡ k = cc in ap Turn h
thread_turn TurnOfDma k e = cc
thread_turn (Ended how) k e = absurd (none-some (Actor.Thread k) e)

-- if a thread has the turn, the replay's cursor says so
pub turn-of : (s : Setup) (w : World) (i k : ℕ) → (h : HasActor s w i (Actor.Thread k)) → h.cursor.now ≡ Turn k
turn-of s w i k h = thread_turn h.cursor.now k h.turn
