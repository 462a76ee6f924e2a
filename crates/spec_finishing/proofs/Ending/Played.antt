-- Once finishing has ended, every replay has done the whole play that was asked for.
use Rattle.std.proofs.Common.{◌≡◌, ℕ, ◌<◌, true, List, [], ◌∷◌, ◌++◌, length, Some, None, refl, ap, ◌∙◌, subst, arith}
use Rattle.std.specs.Prelude.{slice_get}
use Rattle.spec_protocol.specs.declared.event.Event.{Event}
use Rattle.spec_sphere.specs.sphere.Spheres.{Sphere, is_over}
use Rattle.spec_protocol.specs.machine.World.{World}
use Rattle.spec_sphere.specs.sphere.Setups.{ReplaySetup, in_strata, IsReplayed, SphereSetup}
use Rattle.spec_protocol.specs.machine.Machine.{Setup, world_of, happens, world_after}
use Rattle.spec_protocol.specs.machine.Shown.{shown_of}
use Rattle.spec_protocol.specs.machine.Finishing.{next, Finishes}
use Rattle.spec_protocol.specs.promises.Promises.{after}
use Rattle.spec_replay.proofs.Strata.Stopping.{stopped_played}
use Rattle.spec_finishing.specs.Ending.{IsAtEnd, CanFinish}
use Rattle.spec_finishing.specs.Finished.{HasPlayed, ReplaysAreFinished, StrataAreCompleted}
use Rattle.spec_protocol.proofs.Invariants.Schedules.{sizes_kept}
use Rattle.spec_finishing.proofs.Ending.KindsKept.{is_replayed, kind-at}
use Rattle.spec_finishing.proofs.Ending.Knowing.{within, there_is, kinds_after}
use Rattle.spec_finishing.proofs.Paying.Standing.{replay-role}
use Rattle.spec_finishing.proofs.Next.Turns.{shown-itself}
use Rattle.spec_finishing.proofs.Next.All.{next-none, next-stands}

-- the last world has no next event
pub last_next : (w : World) (es : List Event) → Finishes w es → next (world_after w es) ≡ None
last_next w [] f = f
last_next w (e ∷ es) f = last_next (happens w e).world es f.1

-- two schedules in a row lead where the second leads from the end of the first
pub after_both : (w : World) (es fs : List Event) → world_after w (es ++ fs) ≡ world_after (world_after w es) fs
after_both w [] fs = refl
after_both w (e ∷ es) fs = after_both (happens w e).world es fs

played_at : (image : SphereSetup) (asked : ReplaySetup) (s : Setup) (es : List Event) (i : ℕ) → CanFinish s → next (after s es) ≡ None → slice_get s.spheres i ≡ Some image → image.role ≡ IsReplayed asked → HasPlayed image asked s es i
played_at image asked s es i can none there replayed =
    let w = after s es in
    let shown = shown-itself w (next-stands w none) in
    let inside : i < length w.spheres = (let l = within s.spheres i image there in let e = (sizes_kept s es can.setup).spheres in omega (arith, l, e)) in
    let p = there_is w.spheres i inside in
    let shows : slice_get (shown_of w).spheres i ≡ Some p.0 = ap (λ (ps : List Sphere). slice_get ps i) shown ∙ p.1 in
    let kind = kind-at s.spheres (shown_of w).spheres i image p.0 there shows (kinds_after s es can.setup) ∙ ap is_replayed replayed in
    let b = replay-role p.0.role kind in
    let over : is_over b.0.now ≡ true = subst IsAtEnd b.1 ((next-none w none).replays i p.0 p.1) in
    record {
      sphere = p.0;
      cursor = b.0;
      there = p.1;
      role = b.1;
      played = stopped_played image asked s es i p.0 b.0
          (record {
            setup = can.setup;
            there = there;
            replays = replayed;
            standard = can.standard i image asked there replayed;
            strata = can.strata i image asked there replayed;
            shown = shows;
          }) b.1 over;
    }

-- once finishing has ended, each replay has done the whole play that was asked for
pub replays_finished : ReplaysAreFinished
replays_finished image asked s es finishing i can finishes there replayed =
    let same = after_both (world_of s) es finishing in
    played_at image asked s (es ++ finishing) i can (ap next same ∙ last_next (after s es) finishing finishes) there replayed

-- and each in strata is complete
pub strata_completed : StrataAreCompleted
strata_completed image v s es finishing i can finishes there replayed parallel =
    let h = replays_finished image (in_strata v) s es finishing i can finishes there replayed in
    record { whole = h; complete = h.played.now ∙ parallel.fits }
