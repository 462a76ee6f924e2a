use Rattle.spec_protocol.proofs.Kept.Tails.{tails_of_points}
use Rattle.spec_protocol.proofs.promise.tails_are_of_points.Goals as goal

pub returns : goal.returns
returns c = tails_of_points
