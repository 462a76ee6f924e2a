-- A machine whose run is over, with the setup that it was made from.
use Rattle.std.specs.Prelude.{◌≤◌, ◌^◌, List, length}
use Rattle.spec_protocol.specs.declared.event.Event.{Event}
use Rattle.spec_protocol.specs.machine.World.{World}
use Rattle.spec_protocol.specs.machine.Machine.{Setup}
use Rattle.spec_protocol.specs.promises.Sound.{IsWithinLimits}
use Rattle.spec_run.specs.Promise.{ShowsRun}

pub record Ran : Type 0 where
  pub setup : Setup
  pub world : World

-- the setup is within its limits, and its machine has taken the schedule and then the events that finish it: the world shows
-- what they leave, and no epoch is to begin
pub record IsOver (schedule : List Event) (r : Ran) : Type 0 where
  pub limits : IsWithinLimits r.setup
  pub few : length schedule ≤ 2 ^ 24
  pub world : ShowsRun r.setup schedule r.world
