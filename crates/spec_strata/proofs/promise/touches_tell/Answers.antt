use Rattle.spec_strata.proofs.Shares.Touches.{touches_tell}
use Rattle.spec_strata.proofs.promise.touches_tell.Goals as goal

pub returns : goal.returns
returns c = touches_tell
