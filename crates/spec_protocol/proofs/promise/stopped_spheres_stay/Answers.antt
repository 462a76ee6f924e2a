use Rattle.spec_protocol.proofs.Replays.Pieces.{stopped_stay}
use Rattle.spec_protocol.proofs.promise.stopped_spheres_stay.Goals as goal

pub returns : goal.returns
returns c = stopped_stay
