use Rattle.spec_strata.proofs.Making.Saying.{made_are_parallel}
use Rattle.spec_strata.proofs.promise.made_are_parallel.Goals as goal

pub returns : goal.returns
returns c = made_are_parallel
