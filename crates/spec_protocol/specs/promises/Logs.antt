-- What holds of every log that is kept: it has what its sphere has done, and nothing of what comes next.
use Rattle.std.specs.Prelude.{◌≡◌, ℕ, List}
use Rattle.spec_protocol.specs.declared.event.Event.{Event}
use Rattle.spec_sphere.specs.sphere.Spheres.{Recording, Record}
use Rattle.spec_protocol.specs.machine.World.{sphere_at}
use Rattle.spec_sphere.specs.sphere.Setups.{RecordSetup, SphereSetup}
use Rattle.spec_protocol.specs.machine.Machine.{Setup}
use Rattle.spec_protocol.specs.promises.Promises.{WillRecord, after}
use Rattle.spec_sphere.specs.promises.Logs.{IsLogFresh}

-- so it is of the log that a sphere has kept
abbrev pub LogsAreFresh : Type 0
LogsAreFresh =
    (s : Setup) (es : List Event) (i : ℕ) (image : SphereSetup) (asked : RecordSetup)
    → WillRecord s i image asked
    → (recording : Recording)
    → (sphere_at (after s es) i).role ≡ Record recording
    → IsLogFresh recording.log (sphere_at (after s es) i)
