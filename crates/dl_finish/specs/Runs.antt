-- What finishing starts from, and what it leaves.
use Rattle.std.specs.Prelude.{◌≡◌, ℕ, ◌+◌, ◌<◌, true, List, ◌++◌, length, take, slice_get, Some}
use Rattle.spec_protocol.specs.declared.event.Event.{Event}
use Rattle.spec_protocol.specs.machine.World.{World}
use Rattle.spec_sphere.specs.sphere.Setups.{ReplaySetup, IsReplayed, SphereSetup}
use Rattle.spec_protocol.specs.machine.Machine.{Setup}
use Rattle.spec_finishing.specs.Ending.{Ends}
use Rattle.spec_finishing.specs.Finished.{HasPlayed}
use Rattle.spec_finishing.specs.Function.{finishing_of}
use Rattle.dl_machine.specs.Events.{wants_memory}
use Rattle.dl_machine.specs.Runs.{IsRun}

-- the events that finish the run have happened, all of them and no others, and each replay has done all that was asked for
pub record HasEnded (s : Setup) (es : List Event) (w : World) : Type 0 where
  pub run : IsRun s (es ++ finishing_of s es) w
  pub ends : Ends s es (finishing_of s es)
  pub events : w.counts.events ≡ length es + length (finishing_of s es)
  pub played : (i : ℕ) (image : SphereSetup) (asked : ReplaySetup)
      → slice_get s.spheres i ≡ Some image
      → image.role ≡ IsReplayed asked
      → HasPlayed image asked s (es ++ finishing_of s es) i

-- the first of those events have happened, but not all: the next one takes memory
pub record HasBegun (s : Setup) (es : List Event) (w : World) : Type 0 where
  pub events : ℕ
  pub some_left : events < length (finishing_of s es)
  pub run : IsRun s (es ++ take events (finishing_of s es)) w
  pub wants : (e : Event) → slice_get (finishing_of s es) events ≡ Some e → wants_memory e ≡ true
