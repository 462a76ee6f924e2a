use Rattle.spec_program.proofs.Agreeing.{intervals_told}
use Rattle.spec_program.proofs.promise.intervals_are_told.Goals as goal

pub returns : goal.returns
returns c = intervals_told
