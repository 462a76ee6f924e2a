use Rattle.spec_finishing.proofs.Ending.ShortRuns.{runs_short}
use Rattle.spec_finishing.proofs.promise.runs_are_short.Goals as goal

pub returns : goal.returns
returns c = runs_short
