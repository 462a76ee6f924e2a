use Rattle.spec_strata.proofs.Shares.Touches.{touches_follow}
use Rattle.spec_strata.proofs.promise.touches_follow.Goals as goal

pub returns : goal.returns
returns c = touches_follow
