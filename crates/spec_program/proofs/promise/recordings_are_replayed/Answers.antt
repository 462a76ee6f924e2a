use Rattle.spec_program.proofs.Agreeing.{recordings_replayed}
use Rattle.spec_program.proofs.promise.recordings_are_replayed.Goals as goal

pub returns : goal.returns
returns c = recordings_replayed
