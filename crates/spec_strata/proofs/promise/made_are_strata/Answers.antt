use Rattle.spec_strata.proofs.Making.Made.{made_are_strata}
use Rattle.spec_strata.proofs.promise.made_are_strata.Goals as goal

pub returns : goal.returns
returns c = made_are_strata
