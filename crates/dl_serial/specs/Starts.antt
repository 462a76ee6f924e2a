-- From which states a player goes on.
use Rattle.std.specs.Prelude.{length}
use Rattle.spec_log.specs.declared.LogParts.{LogParts}
use Rattle.spec_play.specs.Resuming.{IsBounded}
use Rattle.spec_play.specs.States.{State}
use Rattle.spec_sphere.specs.promises.Sound.{IsSoundIf}

-- the state passes no bound of the log, and its request is a sound one; it need not be of the log's own play
pub record CanGoOn (log : LogParts) (s : State) : Type 0 where
  pub bounded : IsBounded log s
  pub request : IsSoundIf (length s.memory) s.request
