use Rattle.spec_interval.proofs.Counting.{slices_stop_at_count}
use Rattle.spec_interval.proofs.promise.slices_stop_at_count.Goals as goal

pub returns : goal.returns
returns c = slices_stop_at_count
