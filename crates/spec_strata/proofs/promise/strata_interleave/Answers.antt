use Rattle.spec_strata.proofs.Plays.Strata.{strata_interleave}
use Rattle.spec_strata.proofs.promise.strata_interleave.Goals as goal

pub returns : goal.returns
returns c = strata_interleave
