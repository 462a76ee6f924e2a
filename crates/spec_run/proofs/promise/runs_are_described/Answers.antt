use Rattle.spec_run.proofs.Shown.{runs_described}
use Rattle.spec_run.proofs.promise.runs_are_described.Goals as goal

pub returns : goal.returns
returns c = runs_described
