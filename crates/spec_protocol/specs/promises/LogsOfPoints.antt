-- What is promised of the logs that are kept: that they are those of the points.
use Rattle.std.specs.Prelude.{◌≡◌, ℕ, List}
use Rattle.spec_log.specs.declared.LogParts.{LogParts}
use Rattle.spec_protocol.specs.declared.event.Event.{Event}
use Rattle.spec_sphere.specs.sphere.Spheres.{Recording, Record}
use Rattle.spec_protocol.specs.machine.World.{sphere_at}
use Rattle.spec_sphere.specs.sphere.Setups.{new_epochs, RecordSetup, SphereSetup}
use Rattle.spec_protocol.specs.machine.Machine.{Setup}
use Rattle.spec_protocol.specs.machine.Serial.{serial_start}
use Rattle.spec_protocol.specs.machine.Logged.{supplied}
use Rattle.spec_sphere.specs.sphere.Logged.{logged}
use Rattle.spec_protocol.specs.promises.Promises.{WillRecord, after}

-- the log that the points of sphere i tell, where it is recorded so
abbrev pub log_of_points : Setup → List Event → (i : ℕ) → RecordSetup → LogParts
log_of_points s es i asked = logged asked.version asked.mode s.numbers.s (supplied i (serial_start s) (after s es).points)

-- what a recorded sphere keeps by its points; events begin no epoch
abbrev pub recording_of_points : Setup → List Event → (i : ℕ) → RecordSetup → Recording
recording_of_points s es i asked = record { log = log_of_points s es i asked; epochs = new_epochs asked.epochs }

-- the log that a sphere has kept is that of its points, with the standard size
abbrev pub LogsAreOfPoints : Type 0
LogsAreOfPoints =
    (s : Setup) (es : List Event) (i : ℕ) (image : SphereSetup) (asked : RecordSetup)
    → WillRecord s i image asked
    → (sphere_at (after s es) i).role ≡ Record (recording_of_points s es i asked)
