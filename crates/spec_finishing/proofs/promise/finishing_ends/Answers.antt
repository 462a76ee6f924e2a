use Rattle.spec_finishing.proofs.Ending.All.{finishing_all}
use Rattle.spec_finishing.proofs.promise.finishing_ends.Goals as goal

pub returns : goal.returns
returns c = finishing_all
