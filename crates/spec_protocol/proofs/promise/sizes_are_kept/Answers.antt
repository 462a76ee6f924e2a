use Rattle.spec_protocol.proofs.Invariants.Schedules.{sizes_kept}
use Rattle.spec_protocol.proofs.promise.sizes_are_kept.Goals as goal

pub returns : goal.returns
returns c = sizes_kept
