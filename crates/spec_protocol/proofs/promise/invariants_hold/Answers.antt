use Rattle.spec_protocol.proofs.Invariants.Schedules.{invariants_hold as all_good}
use Rattle.spec_protocol.proofs.promise.invariants_hold.Goals as goal

pub returns : goal.returns
returns c = all_good
