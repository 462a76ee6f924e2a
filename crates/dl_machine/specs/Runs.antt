-- What is promised of a machine that began as a setup and took some events.
use Rattle.std.specs.Prelude.{◌≡◌, ℕ, true, false, List, length, slice_get, Some, None}
use Rattle.dl_entry.specs.declared.Point.{Point}
use Rattle.spec_play.specs.Plays.{plays}
use Rattle.spec_protocol.specs.declared.event.Event.{Event}
use Rattle.spec_sphere.specs.sphere.Spheres.{Recording, Cursor, Record, Replay, Sphere, is_over, replays}
use Rattle.spec_protocol.specs.machine.World.{World, sphere_at}
use Rattle.spec_sphere.specs.sphere.Setups.{last_played, first_played, ReplaySetup, EpochSetup, RecordSetup, IsRecorded}
use Rattle.spec_sphere.specs.sphere.Setups.{IsReplayed, SphereSetup, in_strata}
use Rattle.spec_protocol.specs.machine.Machine.{Setup}
use Rattle.spec_protocol.specs.machine.Serial.{CanDoAll, serial, serial_start}
use Rattle.spec_protocol.specs.machine.Shown.{shown_of}
use Rattle.spec_sphere.specs.promises.Alike.{IsAlike}
use Rattle.spec_protocol.specs.promises.Kept.{IsKept, Shows, WillKeep}
use Rattle.spec_sphere.specs.promises.PlayingBack.{PlaysBack}
use Rattle.spec_protocol.specs.promises.Sound.{IsWithinLimits}
use Rattle.spec_strata.specs.declared.strata.StrataParts.{StrataParts}
use Rattle.spec_replay.specs.Following.{Follows}
use Rattle.spec_replay.specs.InStrata.{FollowsInStrata}
use Rattle.spec_replay.specs.Promises.{IsPlayed}

-- the setup is within the limits, and the world shows what these events leave: all of it, except what recordings in epochs
-- have given up
pub record IsRun (s : Setup) (es : List Event) (w : World) : Type 0 where
  pub limits : IsWithinLimits s
  pub here : Shows s es w

-- some setup within the limits and some schedule have led to the world
pub record HasRun (w : World) : Type 0 where
  pub setup : Setup
  pub schedule : List Event
  pub run : IsRun setup schedule w

-- the plain and recorded spheres, with their current memories, and the devices are those of doing these points whole, one
-- at a time, except what recordings in epochs have given up; and each point can be done as it says
pub record IsSerial (s : Setup) (w : World) (points : List Point) : Type 0 where
  pub spheres : (i : ℕ) (p : Sphere)
      → slice_get (shown_of w).spheres i ≡ Some p
      → replays p.role ≡ false
      → (q : Sphere) × (slice_get (serial s points).spheres i ≡ Some q) × IsAlike p q
  pub devices : w.devices ≡ (serial s points).devices
  pub possible : CanDoAll (serial_start s) points

-- sphere i was set up so, and is now p, with its current memory
pub record IsNow (s : Setup) (i : ℕ) (w : World) (image : SphereSetup) (p : Sphere) : Type 0 where
  pub there : slice_get s.spheres i ≡ Some image
  pub shown : slice_get (shown_of w).spheres i ≡ Some p

-- if sphere i is recorded, its log so far fits its image and plays back, or it has the end of what its points tell, if it is
-- recorded in epochs; if it is replayed, it is in the play of its log, in strata with commits of the present stratum in any order,
-- and once it has stopped it has done all that was asked for
pub record IsPromised (s : Setup) (i : ℕ) (w : World) : Type 0 where
  pub recorded : (image : SphereSetup) (asked : RecordSetup) (p : Sphere) (recording : Recording)
      → IsNow s i w image p
      → image.role ≡ IsRecorded asked
      → asked.epochs ≡ None
      → p.role ≡ Record recording
      → PlaysBack recording.log image p
  pub kept : (image : SphereSetup) (asked : RecordSetup) (x : EpochSetup)
      → WillKeep s i image asked x
      → IsKept s w.points i asked x (sphere_at w i)
  pub replayed : (image : SphereSetup) (asked : ReplaySetup) (p : Sphere)
      → IsNow s i w image p
      → image.role ≡ IsReplayed asked
      → asked.strata ≡ None
      → Follows asked (plays asked.log (first_played image asked) (length p.progress.commits)) p
  pub strata : (image : SphereSetup) (v : StrataParts) (p : Sphere)
      → IsNow s i w image p
      → image.role ≡ IsReplayed (in_strata v)
      → FollowsInStrata v image p
  pub stopped : (image : SphereSetup) (asked : ReplaySetup) (p : Sphere) (b : Cursor)
      → IsNow s i w image p
      → image.role ≡ IsReplayed asked
      → p.role ≡ Replay b
      → is_over b.now ≡ true
      → IsPlayed asked (last_played image asked) p b
