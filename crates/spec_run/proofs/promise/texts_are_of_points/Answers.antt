use Rattle.spec_run.proofs.Agreeing.{texts_of_points}
use Rattle.spec_run.proofs.promise.texts_are_of_points.Goals as goal

pub returns : goal.returns
returns c = texts_of_points
