use Rattle.spec_protocol.proofs.Invariants.Youngers.{hits_spare}
use Rattle.spec_protocol.proofs.promise.hits_spare_the_older.Goals as goal

pub returns : goal.returns
returns c = hits_spare
