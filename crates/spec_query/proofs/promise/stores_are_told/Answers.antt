use Rattle.spec_query.proofs.Told.{stores_are_told}
use Rattle.spec_query.proofs.promise.stores_are_told.Goals as goal

pub returns : goal.returns
returns c = stores_are_told
