use Rattle.spec_strata.proofs.Logs.Blocks.{turns_alike}
use Rattle.spec_strata.proofs.promise.turns_alike.Goals as goal

pub returns : goal.returns
returns c = turns_alike
