-- What the code asks of the world before an event.
use Rattle.std.specs.Prelude.{◌≡◌, ℕ, ◌<◌, ◌^◌, false, length}
use Rattle.spec_play.specs.Progress.{position}
use Rattle.spec_sphere.specs.sphere.Spheres.{replays}
use Rattle.spec_protocol.specs.machine.World.{World, sphere_at}
use Rattle.spec_protocol.specs.machine.Machine.{Setup}
use Rattle.spec_protocol.specs.promises.Alike.{all_forgotten}
use Rattle.spec_protocol.specs.promises.Invariants.{IsGood}
use Rattle.spec_protocol.specs.promises.Sound.{IsWithinLimits, IsSound}

-- a setup within the limits has come to it, or to a world alike, and the invariant holds
pub record IsReady (w : World) : Type 0 where
  pub setup : Setup
  pub limits : IsWithinLimits setup
  pub good : IsGood w
  pub sound : IsSound setup (all_forgotten w)

-- each plain and recorded sphere has fewer commits than a log may have
pub record HasRoom (w : World) : Type 0 where
  pub few : (i : ℕ) → i < length w.spheres → replays (sphere_at w i).role ≡ false → position (sphere_at w i).progress < 2 ^ 24
