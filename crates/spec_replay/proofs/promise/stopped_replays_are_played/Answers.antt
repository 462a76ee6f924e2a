use Rattle.spec_replay.proofs.Strata.Stopping.{stopped_played}
use Rattle.spec_replay.proofs.promise.stopped_replays_are_played.Goals as goal

pub returns : goal.returns
returns c = stopped_played
