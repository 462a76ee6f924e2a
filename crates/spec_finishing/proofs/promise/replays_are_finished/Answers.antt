use Rattle.spec_finishing.proofs.Ending.Played.{replays_finished}
use Rattle.spec_finishing.proofs.promise.replays_are_finished.Goals as goal

pub returns : goal.returns
returns c = replays_finished
