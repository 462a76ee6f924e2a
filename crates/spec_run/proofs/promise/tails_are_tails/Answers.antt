use Rattle.spec_run.proofs.AreTails.{tails_are_tails}
use Rattle.spec_run.proofs.promise.tails_are_tails.Goals as goal

pub returns : goal.returns
returns c = tails_are_tails
