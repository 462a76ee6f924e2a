use Rattle.spec_query.proofs.Always.{no_change_is_always}
use Rattle.spec_query.proofs.promise.no_change_is_always.Goals as goal

pub returns : goal.returns
returns c = no_change_is_always
