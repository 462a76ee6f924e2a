-- The outcome of a run: the points of its schedule and of finishing; the spheres and devices that executing these points
-- leaves; and what the play of each replayed log leaves.
use Rattle.std.specs.Prelude.{Bool, true, false, ◌||◌, List, [], ◌∷◌}
use Rattle.dl_entry.specs.declared.End.{End}
use Rattle.dl_entry.specs.declared.Point.{Point}
use Rattle.dl_entry.specs.declared.Counts.{Counts}
use Rattle.spec_play.specs.Turns.{TurnOrEnd, Turn, TurnOfDma, Ended}
use Rattle.spec_play.specs.Plays.{Played}
use Rattle.spec_play.specs.Intervals.{now_of}
use Rattle.spec_protocol.specs.declared.event.Event.{Event}
use Rattle.spec_sphere.specs.sphere.Setups.{last_played, ReplaySetup, RoleSetup, IsPlain, IsRecorded, IsReplayed, SphereSetup}
use Rattle.spec_protocol.specs.machine.Machine.{Setup}
use Rattle.spec_protocol.specs.machine.Serial.{SerialState, serial}
use Rattle.spec_finishing.specs.Function.{finished}

-- ---- the machine

-- the serialisation points of the whole run, in the order in which they were made
abbrev pub points_of : Setup → (schedule : List Event) → List Point
points_of s es = (finished s es).points

-- its events and their replies
abbrev pub counts_of : Setup → (schedule : List Event) → Counts
counts_of s es = (finished s es).counts

-- ---- the points executed whole, one at a time

abbrev pub executed : Setup → (schedule : List Event) → SerialState
executed s es = serial s (points_of s es)

-- ---- the logs played

-- the play of a log on an image, as far as it is replayed
abbrev pub played : ReplaySetup → SphereSetup → Played
played asked image = last_played image asked

-- how a whole play ended, as each has
abbrev pub end_of : TurnOrEnd → End
end_of (Ended how) = how
end_of (Turn thread) = End.Complete 0
end_of TurnOfDma = End.Complete 0

-- how what is replayed ended
abbrev pub played_end : ReplaySetup → SphereSetup → End
played_end asked image = end_of (now_of asked.interval asked.log (played asked image))

abbrev pub has_diverged : End → Bool
has_diverged (End.Complete commits) = false
has_diverged (End.At commits) = false
has_diverged (End.Diverged index why) = true

-- whether what is replayed on the image, if anything is, diverges
abbrev pub diverges_as : SphereSetup → RoleSetup → Bool
diverges_as image IsPlain = false
diverges_as image (IsRecorded asked) = false
diverges_as image (IsReplayed asked) = has_diverged (played_end asked image)

-- whether that of any of these spheres does
abbrev pub diverges : List SphereSetup → Bool
diverges [] = false
diverges (image ∷ images) = diverges_as image image.role || diverges images
