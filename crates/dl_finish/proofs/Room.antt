-- If what takes effect is of a replayed sphere, the others keep their commits.
use Rattle.std.proofs.Common.{◌≡◌, ◌≢◌, ℕ, ◌<◌, ◌^◌, true, false, List, [], ◌∷◌, ◌++◌, length, inl, inr, Option, Some, None, sym, ap, ◌∙◌, subst, arith}
use Rattle.std.specs.Prelude.{slice_get}
use Rattle.std.proofs.lemmas.Bool.{true≢false, cases_eq}
use Rattle.spec_play.specs.Progress.{position}
use Rattle.spec_engine.specs.Flights.{Flight}
use Rattle.spec_protocol.specs.declared.event.Event.{Event}
use Rattle.spec_sphere.specs.sphere.Spheres.{Sphere, replays}
use Rattle.spec_protocol.specs.machine.World.{Numbers, Move, World, sphere_at}
use Rattle.spec_sphere.specs.sphere.Setups.{SphereSetup}
use Rattle.spec_protocol.specs.machine.Machine.{Setup, world_of, happens}
use Rattle.spec_protocol.specs.machine.Serial.{SerialState}
use Rattle.spec_protocol.specs.machine.Shown.{shown, shown_of}
use Rattle.spec_protocol.specs.machine.Moves.{do_move, do_if}
use Rattle.spec_protocol.specs.promises.Promises.{IsSetup, after}
use Rattle.spec_protocol.proofs.Invariants.Preserved.{shown-get}
use Rattle.spec_protocol.proofs.Moves.Elsewhere.{at-away}
use Rattle.spec_protocol.proofs.Invariants.Schedules.{happens-preserved, start-good, after-good, sizes_kept}
use Rattle.spec_finishing.specs.Ending.{OfReplay}
use Rattle.spec_finishing.proofs.Ending.Knowing.{after-event, kinds_after, there_is}
use Rattle.spec_finishing.proofs.Ending.KindsKept.{is_replayed, kind-at}
use Rattle.dl_machine.specs.Ready.{HasRoom}

-- a move leaves the other spheres
move_others : (z : Numbers) (x : SerialState) (m : Move) (j : ℕ) → j ≢ m.sphere → slice_get (do_move z x m).spheres j ≡ slice_get x.spheres j
unfolding do_move
move_others z x m j ne = at-away z x m j (slice_get x.spheres m.sphere) ne

-- ---- a sphere that is not replayed

-- that the sphere of that number is replayed stays as the setup says
kind_of : (s : Setup) (es : List Event) (i : ℕ) (image : SphereSetup) → IsSetup s → i < length (after s es).spheres → slice_get s.spheres i ≡ Some image → replays (sphere_at (after s es) i).role ≡ is_replayed image.role
unfolding shown
kind_of s es i image is l there =
    let w = after s es in
    kind-at s.spheres (shown_of w).spheres i image (shown w.slots i (sphere_at w i)) there (shown-get w.slots i w.spheres l) (kinds_after s es is)

same_kind : (s : Setup) (es : List Event) (e : Event) (i : ℕ) → IsSetup s → i < length (happens (after s es) e).world.spheres → i < length (after s es).spheres → replays (sphere_at (happens (after s es) e).world i).role ≡ replays (sphere_at (after s es) i).role
same_kind s es e i is l m =
    let sizes = sizes_kept s es is in
    let image = there_is s.spheres i (let n = sizes.spheres in omega (arith, m, n)) in
    let next = after-event (world_of s) es e in
    let after_ : replays (sphere_at (after s (es ++ e ∷ [])) i).role ≡ is_replayed image.0.role = kind_of s (es ++ e ∷ []) i image.0 is (subst (λ (w : World). i < length w.spheres) (sym next) l) image.1 in
    ap (λ (w : World). replays (sphere_at w i).role) (sym next) ∙ after_ ∙ sym (kind_of s es i image.0 is m image.1)

-- it shows what it showed
unmoved : (s : Setup) (es : List Event) (e : Event) (i : ℕ) (o : Option Move) → IsSetup s → OfReplay (after s es) o → shown_of (happens (after s es) e).world ≡ do_if (after s es).numbers (shown_of (after s es)) o → i < length (happens (after s es) e).world.spheres → i < length (after s es).spheres → replays (sphere_at (happens (after s es) e).world i).role ≡ false
    → slice_get (shown_of (happens (after s es) e).world).spheres i ≡ slice_get (shown_of (after s es)).spheres i
unmoved s es e i None is of whole l m live = ap (λ (x : SerialState). slice_get x.spheres i) whole
unmoved s es e i (Some mv) is of whole l m live =
    let w = after s es in
    elim (cases_eq i mv.sphere) [
      | inl same ↦ (
          let there : replays (sphere_at w i).role ≡ true = ap (λ (j : ℕ). replays (sphere_at w j).role) same ∙ of in
          absurd (true≢false (sym there ∙ sym (same_kind s es e i is l m) ∙ live))
          )
      | inr ne ↦ ap (λ (x : SerialState). slice_get x.spheres i) whole ∙ move_others w.numbers (shown_of w) mv i ne
    ]

shown_position : (xs ys : List (Option Flight)) (i : ℕ) (p q : Sphere) → Some (shown xs i p) ≡ Some (shown ys i q) → (position p.progress ≡ position q.progress) × (replays p.role ≡ replays q.role)
unfolding shown
shown_position xs ys i p q e =
    let same : shown xs i p ≡ shown ys i q = cc in
    (ap (λ (r : Sphere). position r.progress) same, ap (λ (r : Sphere). replays r.role) same)

-- an event that moves no sphere but a replayed one leaves room for a commit more in the others
pub room_kept : (s : Setup) (es : List Event) (e : Event) → IsSetup s → OfReplay (after s es) (happens (after s es) e).move → HasRoom (after s es) → HasRoom (happens (after s es) e).world
room_kept s es e is of room =
    let w = after s es in
    let k = happens-preserved w e (after-good (world_of s) es (start-good s is)) in
    record {
      few = λ i l live.
          let v = (happens w e).world in
          let m : i < length w.spheres = (let n = k.sizes.spheres in omega (arith, l, n)) in
          let same = unmoved s es e i (happens w e).move is of k.whole l m live in
          let both = shown_position v.slots w.slots i (sphere_at v i) (sphere_at w i) (sym (shown-get v.slots i v.spheres l) ∙ same ∙ shown-get w.slots i w.spheres m) in
          subst (λ (n : ℕ). n < 2 ^ 24) (sym both.0) (room.few i m (sym both.1 ∙ live));
    }
