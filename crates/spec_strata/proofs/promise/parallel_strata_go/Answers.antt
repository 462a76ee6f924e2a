use Rattle.spec_strata.proofs.Images.Going.{parallel_strata_go}
use Rattle.spec_strata.proofs.promise.parallel_strata_go.Goals as goal

pub returns : goal.returns
returns c = parallel_strata_go
