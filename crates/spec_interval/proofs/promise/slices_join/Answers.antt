use Rattle.spec_interval.proofs.Joining.{slices_join}
use Rattle.spec_interval.proofs.promise.slices_join.Goals as goal

pub returns : goal.returns
returns c = slices_join
