use Rattle.spec_protocol.proofs.Replays.CountingPieces.{pieces_count}
use Rattle.spec_protocol.proofs.promise.pieces_count_nothing.Goals as goal

pub returns : goal.returns
returns c = pieces_count
