use Rattle.spec_finishing.proofs.Ending.ShortRuns.{setups_finish}
use Rattle.spec_finishing.proofs.promise.setups_can_finish.Goals as goal

pub returns : goal.returns
returns c = setups_finish
