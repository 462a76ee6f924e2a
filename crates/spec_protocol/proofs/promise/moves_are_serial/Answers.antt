use Rattle.spec_protocol.proofs.Invariants.Schedules.{moves_are}
use Rattle.spec_protocol.proofs.promise.moves_are_serial.Goals as goal

pub returns : goal.returns
returns c = moves_are
