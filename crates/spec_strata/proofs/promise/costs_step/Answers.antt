use Rattle.spec_strata.proofs.Plays.Pieces.{costs_step}
use Rattle.spec_strata.proofs.promise.costs_step.Goals as goal

pub returns : goal.returns
returns c = costs_step
