use Rattle.spec_protocol.proofs.Moves.Committers.{committers_told}
use Rattle.spec_protocol.proofs.promise.committers_are_told.Goals as goal

pub returns : goal.returns
returns c = committers_told
