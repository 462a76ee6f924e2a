use Rattle.spec_strata.proofs.Plays.Pieces.{costs_grow}
use Rattle.spec_strata.proofs.promise.costs_grow.Goals as goal

pub returns : goal.returns
returns c = costs_grow
