-- What is promised of replays once finishing has ended.
use Rattle.std.specs.Prelude.{◌≡◌, ℕ, List, ◌++◌, slice_get, Some}
use Rattle.dl_entry.specs.declared.End.{End}
use Rattle.spec_play.specs.Turns.{Ended}
use Rattle.spec_strata.specs.declared.strata.StrataParts.{StrataParts}
use Rattle.spec_strata.specs.Canonical.{canonical}
use Rattle.spec_strata.specs.OnImages.{IsParallelOn}
use Rattle.spec_protocol.specs.declared.event.Event.{Event}
use Rattle.spec_sphere.specs.sphere.Spheres.{Cursor, Replay, Sphere}
use Rattle.spec_sphere.specs.sphere.Setups.{last_played, ReplaySetup, in_strata, IsReplayed, SphereSetup}
use Rattle.spec_protocol.specs.machine.Machine.{Setup}
use Rattle.spec_protocol.specs.machine.Finishing.{FinishesAfter}
use Rattle.spec_protocol.specs.promises.Promises.{after}
use Rattle.spec_replay.specs.Promises.{IsPlayed}
use Rattle.spec_finishing.specs.Ending.{CanFinish}

-- sphere i, which was set up from the image to be replayed so, has done the whole play that was asked for. Its words are in
-- memory: none is in flight
pub record HasPlayed (image : SphereSetup) (asked : ReplaySetup) (s : Setup) (es : List Event) (i : ℕ) : Type 0 where
  pub sphere : Sphere
  pub cursor : Cursor
  pub there : slice_get (after s es).spheres i ≡ Some sphere
  pub role : sphere.role ≡ Replay cursor
  pub played : IsPlayed asked (last_played image asked) sphere cursor

-- whatever the schedule, after the events that finish it
abbrev pub ReplaysAreFinished : Type 0
ReplaysAreFinished =
    (image : SphereSetup) (asked : ReplaySetup) (s : Setup) (es finishing : List Event) (i : ℕ)
    → CanFinish s → FinishesAfter s es finishing → slice_get s.spheres i ≡ Some image
    → image.role ≡ IsReplayed asked
    → HasPlayed image asked s (es ++ finishing) i

-- ---- in strata

-- sphere i, which was set up to be replayed in strata, has done the whole play of their log, and is complete
pub record HasCompleted (image : SphereSetup) (v : StrataParts) (s : Setup) (es : List Event) (i : ℕ) : Type 0 where
  pub whole : HasPlayed image (in_strata v) s es i
  pub complete : whole.cursor.now ≡ Ended (End.Complete (canonical v).count)

-- so has each, if its strata are parallel on the image
abbrev pub StrataAreCompleted : Type 0
StrataAreCompleted =
    (image : SphereSetup) (v : StrataParts) (s : Setup) (es finishing : List Event) (i : ℕ)
    → CanFinish s → FinishesAfter s es finishing → slice_get s.spheres i ≡ Some image
    → image.role ≡ IsReplayed (in_strata v)
    → IsParallelOn v image.memory image.entry
    → HasCompleted image v s (es ++ finishing) i
