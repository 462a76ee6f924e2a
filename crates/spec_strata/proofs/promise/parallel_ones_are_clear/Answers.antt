use Rattle.spec_strata.proofs.Shares.Checking.{parallel_ones_are_clear}
use Rattle.spec_strata.proofs.promise.parallel_ones_are_clear.Goals as goal

pub returns : goal.returns
returns c = parallel_ones_are_clear
