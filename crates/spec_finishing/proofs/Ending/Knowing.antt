-- What is known of every world of a run: that it is good, its sizes, and that its replays are beside their plays.
use Rattle.std.proofs.Common.{◌≡◌, ℕ, zero, suc, ◌<◌, inl, inr, true, false, List, [], ◌∷◌, ◌++◌, length, Option, Some, None, refl, sym, ap, ◌∙◌, subst, arith}
use Rattle.std.specs.Prelude.{slice_get}
use Rattle.std.proofs.lemmas.Bool.{true≢false}
use Rattle.std.proofs.lemmas.Option.{none-some}
use Rattle.spec_protocol.specs.declared.event.Event.{Event}
use Rattle.spec_sphere.specs.sphere.Spheres.{Cursor, Replay, Sphere, is_over, replays}
use Rattle.spec_protocol.specs.machine.World.{World}
use Rattle.spec_sphere.specs.sphere.Setups.{ReplaySetup, in_strata, RoleSetup, IsPlain, IsRecorded, IsReplayed, SphereSetup}
use Rattle.spec_protocol.specs.machine.Machine.{Setup, world_of, happens, world_after, moves}
use Rattle.spec_protocol.specs.machine.Serial.{SerialState, serial_start}
use Rattle.spec_protocol.specs.machine.Shown.{shown_of}
use Rattle.spec_protocol.specs.promises.Invariants.{IsGood}
use Rattle.spec_protocol.specs.promises.Promises.{IsSetup, after, AreSizesKept}
use Rattle.spec_protocol.proofs.Invariants.Schedules.{start-good, after-good, sizes_kept, moves_are}
use Rattle.spec_sphere.specs.promises.Sound.{AreReplayable, AreReplayableIf}
use Rattle.spec_strata.specs.declared.stratum.Stratum.{Stratum}
use Rattle.spec_replay.specs.Promises.{IsReplay}
use Rattle.spec_replay.proofs.Replays.All.{replays_reach}
use Rattle.spec_replay.proofs.Strata.All.{strata_reach}
use Rattle.spec_finishing.specs.Ending.{CanFinish}
use Rattle.spec_finishing.proofs.Paying.Logs.{beside-log}
use Rattle.spec_finishing.proofs.Paying.GoingOn.{GoesOn}
use Rattle.spec_finishing.proofs.Strata.GoingOn.{in-strata}
use Rattle.spec_finishing.proofs.Ending.KindsKept.{is_replayed, AreOfKinds, kind-at, start-kinds, moves-kinds}
use Rattle.spec_finishing.proofs.Paying.Standing.{AllGoOn}
use Rattle.spec_protocol.proofs.Points.Serial.{shown_length}

-- the world is good, has the sizes of its setup, and its replays are beside their plays
pub record Known (s : Setup) (w : World) : Type 0 where
  pub good : IsGood w
  pub sizes : AreSizesKept s w
  pub stands : AllGoOn s (shown_of w)

-- ---- images

-- what is found in a list is before its end
pub within : {A : Type 0} (xs : List A) (i : ℕ) (x : A) → slice_get xs i ≡ Some x → i < length xs
within [] i x is = absurd (none-some x is)
within (y ∷ ys) zero x is = omega arith
within (y ∷ ys) (suc i) x is = let l = within ys i x is in omega (arith, l)

-- before the end of a list something is found
pub there_is : {A : Type 0} (xs : List A) (i : ℕ) → i < length xs → (x : A) × (slice_get xs i ≡ Some x)
there_is [] i l = absurd (omega arith)
there_is (y ∷ ys) zero l = (y, refl)
there_is (y ∷ ys) (suc i) l = there_is ys i (omega arith)

image_of : (s : Setup) (w : World) → AreSizesKept s w → (i : ℕ) (p : Sphere) → slice_get (shown_of w).spheres i ≡ Some p → (image : SphereSetup) × (slice_get s.spheres i ≡ Some image)
image_of s w sizes i p is =
    let l = within (shown_of w).spheres i p is in
    let e = shown_length w.slots 0 w.spheres in
    let f = sizes.spheres in
    there_is s.spheres i (omega (arith, l, e, f))

-- ---- replays

-- after every schedule the spheres are of their setups' kinds
pub kinds_after : (s : Setup) (es : List Event) → IsSetup s → AreOfKinds s.spheres (shown_of (after s es)).spheres
kinds_after s es is =
    subst (λ (x : SerialState). AreOfKinds s.spheres x.spheres) (sym (moves_are s es is).same)
    (moves-kinds s.numbers s.spheres (serial_start s) (moves (world_of s) es) (start-kinds s.numbers.s s.spheres))

replayed_is : (r : RoleSetup) → is_replayed r ≡ true → (asked : ReplaySetup) × (r ≡ IsReplayed asked)
replayed_is IsPlain e = absurd (true≢false (sym e))
replayed_is (IsRecorded asked) e = absurd (true≢false (sym e))
replayed_is (IsReplayed asked) e = (asked, refl)

-- sphere i of a schedule's world, which has that image and is a replay
module _ (s : Setup) (es : List Event) (can : CanFinish s) (i : ℕ) (image : SphereSetup) (p : Sphere) (b : Cursor) (there : slice_get s.spheres i ≡ Some image) (is : slice_get (shown_of (after s es)).spheres i ≡ Some p) (role : p.role ≡ Replay b) (going : is_over b.now ≡ false) where
  is_replay : (asked : ReplaySetup) → image.role ≡ IsReplayed asked → IsReplay image asked s es i p
  is_replay asked replayed =
      record {
        setup = can.setup;
        there = there;
        replays = replayed;
        standard = can.standard i image asked there replayed;
        strata = can.strata i image asked there replayed;
        shown = is;
      }

  by_log : (asked : ReplaySetup) → image.role ≡ IsReplayed asked → asked.strata ≡ None → GoesOn image p b
  by_log asked replayed none = inl (beside-log image asked p b none (replays_reach image asked s es i p (is_replay asked replayed) none) role going)

  by_strata : (asked : ReplaySetup) → image.role ≡ IsReplayed asked → AreReplayable image.memory image.entry asked → GoesOn image p b
  by_strata asked replayed r =
      let v = r.strata in
      let same : image.role ≡ IsReplayed (in_strata v) = replayed ∙ ap IsReplayed r.asks in
      inr (in-strata v image p b (can.standard i image (in_strata v) there same) (strata_reach image v s es i p (is_replay (in_strata v) same)) role going)

  goes_by : (asked : ReplaySetup) (o : Option (List Stratum)) → image.role ≡ IsReplayed asked → asked.strata ≡ o → AreReplayableIf image.memory image.entry asked o → GoesOn image p b
  goes_by asked None replayed none r = by_log asked replayed none
  goes_by asked (Some strata) replayed some r = by_strata asked replayed r

  goes_after : GoesOn image p b
  goes_after =
      let kind = kind-at s.spheres (shown_of (after s es)).spheres i image p there is (kinds_after s es can.setup) in
      let asked = replayed_is image.role (sym kind ∙ ap replays role) in
      goes_by asked.0 asked.0.strata asked.1 refl (can.strata i image asked.0 there asked.1)

-- all this is known of the world after every schedule
pub known-after : (s : Setup) (es : List Event) → CanFinish s → Known s (after s es)
known-after s es can =
    record {
      good = after-good (world_of s) es (start-good s can.setup);
      sizes = sizes_kept s es can.setup;
      stands = record {
        images = image_of s (after s es) (sizes_kept s es can.setup);
        goes = goes_after s es can;
      };
    }

-- ---- one more event

-- an event after a schedule happens in the world that the schedule leaves
pub after-event : (w : World) (es : List Event) (e : Event) → world_after w (es ++ e ∷ []) ≡ (happens (world_after w es) e).world
after-event w [] e = refl
after-event w (f ∷ es) e = after-event (happens w f).world es e
