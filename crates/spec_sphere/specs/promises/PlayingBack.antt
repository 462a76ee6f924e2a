-- What is promised of a recorded log: that it plays back what was recorded.
use Rattle.std.specs.Prelude.{◌≡◌}
use Rattle.spec_log.specs.declared.LogParts.{LogParts}
use Rattle.spec_play.specs.Plays.{FitsImage}
use Rattle.spec_sphere.specs.sphere.Spheres.{Sphere}
use Rattle.spec_sphere.specs.sphere.Setups.{all_of, last_played, SphereSetup}

-- the log fits the image, and its play leaves this memory, these threads, and these commits with this request
pub record PlaysBack (log : LogParts) (image : SphereSetup) (p : Sphere) : Type 0 where
  pub fit : FitsImage log image.memory image.entry
  pub memory : (last_played image (all_of log)).memory ≡ p.memory
  pub threads : (last_played image (all_of log)).threads ≡ p.threads
  pub progress : (last_played image (all_of log)).progress ≡ p.progress
