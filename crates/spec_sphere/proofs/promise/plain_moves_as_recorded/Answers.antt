use Rattle.spec_sphere.proofs.Moves.AsRecorded.{plain_moves}
use Rattle.spec_sphere.proofs.promise.plain_moves_as_recorded.Goals as goal

pub returns : goal.returns
returns c = plain_moves
