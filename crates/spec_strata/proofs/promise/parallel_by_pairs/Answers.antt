use Rattle.spec_strata.proofs.Shares.Pairs.{parallel_by_pairs}
use Rattle.spec_strata.proofs.promise.parallel_by_pairs.Goals as goal

pub returns : goal.returns
returns c = parallel_by_pairs
