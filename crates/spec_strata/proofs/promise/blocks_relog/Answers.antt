use Rattle.spec_strata.proofs.Logs.All.{blocks_relog}
use Rattle.spec_strata.proofs.promise.blocks_relog.Goals as goal

pub returns : goal.returns
returns c = blocks_relog
