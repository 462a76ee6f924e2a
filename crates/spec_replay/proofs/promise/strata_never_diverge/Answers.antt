use Rattle.spec_replay.proofs.Strata.Ends.{strata_end}
use Rattle.spec_replay.proofs.promise.strata_never_diverge.Goals as goal

pub returns : goal.returns
returns c = strata_end
