use Rattle.spec_protocol.proofs.Invariants.AsksGranted.{grants_clear}
use Rattle.spec_protocol.proofs.promise.grants_are_clear.Goals as goal

pub returns : goal.returns
returns c = grants_clear
