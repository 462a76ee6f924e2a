use Rattle.spec_finishing.proofs.Ending.Played.{strata_completed}
use Rattle.spec_finishing.proofs.promise.strata_are_completed.Goals as goal

pub returns : goal.returns
returns c = strata_completed
