-- What is promised of recorded logs: that they play back what was recorded.
use Rattle.std.specs.Prelude.{◌≡◌, ℕ, List, slice_get, Some}
use Rattle.spec_protocol.specs.declared.event.Event.{Event}
use Rattle.spec_sphere.specs.sphere.Spheres.{Recording, Record, Sphere}
use Rattle.spec_sphere.specs.sphere.Setups.{RecordSetup, SphereSetup}
use Rattle.spec_protocol.specs.machine.Machine.{Setup}
use Rattle.spec_protocol.specs.machine.Shown.{shown_of}
use Rattle.spec_protocol.specs.promises.Promises.{WillRecord, after}
use Rattle.spec_sphere.specs.promises.PlayingBack.{PlaysBack}

-- the sphere is p now, with its current memory and its log so far
abbrev pub LogsPlayBack : Type 0
LogsPlayBack =
    (s : Setup) (es : List Event) (i : ℕ) (image : SphereSetup) (asked : RecordSetup)
    → WillRecord s i image asked
    → (p : Sphere) (recording : Recording)
    → slice_get (shown_of (after s es)).spheres i ≡ Some p
    → p.role ≡ Record recording
    → PlaysBack recording.log image p
