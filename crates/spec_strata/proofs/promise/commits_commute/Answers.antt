use Rattle.spec_strata.proofs.Local.Footprints.{commits_commute}
use Rattle.spec_strata.proofs.promise.commits_commute.Goals as goal

pub returns : goal.returns
returns c = commits_commute
