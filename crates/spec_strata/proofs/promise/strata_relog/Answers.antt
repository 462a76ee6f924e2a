use Rattle.spec_strata.proofs.Logs.Strata.{strata_relog}
use Rattle.spec_strata.proofs.promise.strata_relog.Goals as goal

pub returns : goal.returns
returns c = strata_relog
