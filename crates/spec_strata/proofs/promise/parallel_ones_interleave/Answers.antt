use Rattle.spec_strata.proofs.Shares.Steps.{parallel_ones_interleave}
use Rattle.spec_strata.proofs.promise.parallel_ones_interleave.Goals as goal

pub returns : goal.returns
returns c = parallel_ones_interleave
