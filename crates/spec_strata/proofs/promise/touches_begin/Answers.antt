use Rattle.spec_strata.proofs.Shares.Touches.{touches_begin}
use Rattle.spec_strata.proofs.promise.touches_begin.Goals as goal

pub returns : goal.returns
returns c = touches_begin
