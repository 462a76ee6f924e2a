use Rattle.spec_protocol.proofs.Invariants.Youngers.{interrupts_abandon}
use Rattle.spec_protocol.proofs.promise.interrupts_abandon.Goals as goal

pub returns : goal.returns
returns c = interrupts_abandon
