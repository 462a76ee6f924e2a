use Rattle.spec_run.proofs.Described.{recordings_reproduced}
use Rattle.spec_run.proofs.promise.recordings_are_reproduced.Goals as goal

pub returns : goal.returns
returns c = recordings_reproduced
