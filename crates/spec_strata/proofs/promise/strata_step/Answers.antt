use Rattle.spec_strata.proofs.Plays.Strata.{strata_step}
use Rattle.spec_strata.proofs.promise.strata_step.Goals as goal

pub returns : goal.returns
returns c = strata_step
