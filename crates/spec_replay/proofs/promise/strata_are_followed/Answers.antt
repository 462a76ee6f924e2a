use Rattle.spec_replay.proofs.Strata.All.{strata_follow}
use Rattle.spec_replay.proofs.promise.strata_are_followed.Goals as goal

pub returns : goal.returns
returns c = strata_follow
