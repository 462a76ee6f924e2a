use Rattle.spec_program.proofs.Agreeing.{tails_walked}
use Rattle.spec_program.proofs.promise.tails_are_walked.Goals as goal

pub returns : goal.returns
returns c = tails_walked
