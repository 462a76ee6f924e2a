use Rattle.spec_strata.proofs.Shares.Checking.{clear_ones_are_parallel}
use Rattle.spec_strata.proofs.promise.clear_ones_are_parallel.Goals as goal

pub returns : goal.returns
returns c = clear_ones_are_parallel
