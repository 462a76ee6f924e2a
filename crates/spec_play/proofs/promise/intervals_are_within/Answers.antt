use Rattle.spec_play.proofs.Within.{intervals_are_within}
use Rattle.spec_play.proofs.promise.intervals_are_within.Goals as goal

pub returns : goal.returns
returns c = intervals_are_within
