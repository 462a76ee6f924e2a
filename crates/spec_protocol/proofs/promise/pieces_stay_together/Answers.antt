use Rattle.spec_protocol.proofs.Replays.Pieces.{pieces_stay}
use Rattle.spec_protocol.proofs.promise.pieces_stay_together.Goals as goal

pub returns : goal.returns
returns c = pieces_stay
