-- What is promised of these definitions, for every setup and every list of events.
use Rattle.std.specs.Prelude.{◌≡◌, ℕ, ◌<◌, false, List, length, slice_get, Some}
use Rattle.spec_protocol.specs.declared.event.Event.{Event}
use Rattle.spec_sphere.specs.sphere.Spheres.{Sphere, replays}
use Rattle.spec_protocol.specs.machine.World.{World}
use Rattle.spec_sphere.specs.sphere.Setups.{RecordSetup, IsRecorded, SphereSetup}
use Rattle.spec_protocol.specs.machine.Machine.{Setup, world_of, world_after, moves}
use Rattle.spec_protocol.specs.machine.Serial.{serial_start, serial, CanDoAll}
use Rattle.spec_protocol.specs.machine.Shown.{shown_of}
use Rattle.spec_protocol.specs.promises.Invariants.{IsGood}
use Rattle.spec_protocol.specs.machine.Moves.{do_moves, FitAll}

-- a chunk can run an instruction, and a write buffer can hold a word
pub record IsSetup (s : Setup) : Type 0 where
  pub chunk : 0 < s.numbers.s
  pub buffer : 0 < s.numbers.capacity

-- sphere i is set up by the image, to be recorded so
pub record WillRecord (s : Setup) (i : ℕ) (image : SphereSetup) (asked : RecordSetup) : Type 0 where
  pub setup : IsSetup s
  pub there : slice_get s.spheres i ≡ Some image
  pub role : image.role ≡ IsRecorded asked

-- the world of a schedule
abbrev pub after : Setup → List Event → World
after s es = world_after (world_of s) es

-- ---- the order is serial

-- the plain and recorded spheres, with their threads, requests, current memories, commits and logs, and the devices with the
-- console, are those of executing the points whole, one at a time; and each point can be done as it says
pub record IsSerialAfter (s : Setup) (es : List Event) : Type 0 where
  pub spheres : (i : ℕ) (p : Sphere)
      → slice_get (shown_of (after s es)).spheres i ≡ Some p
      → replays p.role ≡ false
      → slice_get (serial s (after s es).points).spheres i ≡ Some p
  pub devices : (after s es).devices ≡ (serial s (after s es).points).devices
  pub possible : CanDoAll (serial_start s) (after s es).points

abbrev pub CommitsAreSerial : Type 0
CommitsAreSerial = (s : Setup) (es : List Event) → IsSetup s → IsSerialAfter s es

-- ---- so are all moves, those of replayed spheres too

-- all spheres are those of doing the moves whole, pieces and divergences too; and each move can be done as it says
pub record AreMovesSerial (s : Setup) (es : List Event) : Type 0 where
  pub same : shown_of (after s es) ≡ do_moves s.numbers (serial_start s) (moves (world_of s) es)
  pub possible : FitAll s.numbers (serial_start s) (moves (world_of s) es)

abbrev pub MovesAreSerial : Type 0
MovesAreSerial = (s : Setup) (es : List Event) → IsSetup s → AreMovesSerial s es

-- ---- what holds of every world

abbrev pub InvariantsHold : Type 0
InvariantsHold = (s : Setup) (es : List Event) → IsSetup s → IsGood (after s es)

-- the numbers stay
pub record AreSizesKept (s : Setup) (w : World) : Type 0 where
  pub numbers : w.numbers ≡ s.numbers
  pub spheres : length w.spheres ≡ length s.spheres
  pub cores : length w.cores ≡ s.cores
  pub slots : length w.slots ≡ s.window

abbrev pub SizesAreKept : Type 0
SizesAreKept = (s : Setup) (es : List Event) → IsSetup s → AreSizesKept s (after s es)
