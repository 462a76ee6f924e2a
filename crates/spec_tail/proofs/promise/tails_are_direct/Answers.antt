use Rattle.spec_tail.proofs.Told.{tails-are-direct}
use Rattle.spec_tail.proofs.promise.tails_are_direct.Goals as goal

pub returns : goal.returns
returns c = tails-are-direct
