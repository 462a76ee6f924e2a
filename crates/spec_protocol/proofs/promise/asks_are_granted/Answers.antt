use Rattle.spec_protocol.proofs.Invariants.AsksGranted.{asks_granted}
use Rattle.spec_protocol.proofs.promise.asks_are_granted.Goals as goal

pub returns : goal.returns
returns c = asks_granted
