-- A log in version 2 plays as it did in version 1.
use Rattle.std.specs.Prelude.{◌≡◌, ℕ, List}
use Rattle.spec_log.specs.declared.LogParts.{LogParts}
use Rattle.spec_log.specs.Migration.{migrated}
use Rattle.spec_play.specs.Plays.{opened, plays, play, FitsImage}

-- on every image, after any number of commits and as a whole
pub record MigrationKeepsPlays : Type 0 where
  pub each : (log : LogParts) (memory : List ℕ) (entry i : ℕ)
      → plays (migrated log) (opened (migrated log) memory entry) i ≡ plays log (opened log memory entry) i
  pub whole : (log : LogParts) (memory : List ℕ) (entry : ℕ) → play (migrated log) memory entry ≡ play log memory entry
  pub fits : (log : LogParts) (memory : List ℕ) (entry : ℕ) → FitsImage log memory entry → FitsImage (migrated log) memory entry
