use Rattle.spec_protocol.proofs.Points.Serial.{commits_are}
use Rattle.spec_protocol.proofs.promise.commits_are_serial.Goals as goal

pub returns : goal.returns
returns c = commits_are
