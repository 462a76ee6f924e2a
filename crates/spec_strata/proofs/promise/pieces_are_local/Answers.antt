use Rattle.spec_strata.proofs.Plays.Pieces.{pieces_are_local}
use Rattle.spec_strata.proofs.promise.pieces_are_local.Goals as goal

pub returns : goal.returns
returns c = pieces_are_local
