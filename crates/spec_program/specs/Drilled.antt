-- What is promised of drills.
use Rattle.std.specs.Prelude.{◌≡◌, ℕ, false}
use Rattle.spec_run.specs.Runs.{diverges}
use Rattle.spec_program.specs.Drills.{recorded_account, replayed_account, replaying}

-- the replay's account is the recorded one, byte for byte, and the log's play is complete
pub record IsReproduced (v : ℕ) : Type 0 where
  pub account : replayed_account v ≡ recorded_account v
  pub complete : diverges (replaying v).spheres ≡ false

-- of every number
abbrev pub DrillsAreReproduced : Type 0
DrillsAreReproduced = (v : ℕ) → IsReproduced v
