use Rattle.spec_protocol.proofs.Points.Counts.{points_made}
use Rattle.spec_protocol.proofs.promise.points_are_made.Goals as goal

pub returns : goal.returns
returns c = points_made
