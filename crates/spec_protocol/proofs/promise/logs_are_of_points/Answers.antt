use Rattle.spec_protocol.proofs.Points.Logs.{logs_are}
use Rattle.spec_protocol.proofs.promise.logs_are_of_points.Goals as goal

pub returns : goal.returns
returns c = logs_are
