use Rattle.spec_strata.proofs.Local.Footprints.{commits_are_local}
use Rattle.spec_strata.proofs.promise.commits_are_local.Goals as goal

pub returns : goal.returns
returns c = commits_are_local
