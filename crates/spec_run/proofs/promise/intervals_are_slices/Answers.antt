use Rattle.spec_run.proofs.Slices.{intervals_sliced}
use Rattle.spec_run.proofs.promise.intervals_are_slices.Goals as goal

pub returns : goal.returns
returns c = intervals_sliced
