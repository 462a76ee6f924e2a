use Rattle.spec_protocol.proofs.Invariants.Youngers.{youngers_begin}
use Rattle.spec_protocol.proofs.promise.youngers_begin.Goals as goal

pub returns : goal.returns
returns c = youngers_begin
