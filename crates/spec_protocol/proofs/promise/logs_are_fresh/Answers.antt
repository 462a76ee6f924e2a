use Rattle.spec_protocol.proofs.Points.Logs.{logs_are_fresh}
use Rattle.spec_protocol.proofs.promise.logs_are_fresh.Goals as goal

pub returns : goal.returns
returns c = logs_are_fresh
