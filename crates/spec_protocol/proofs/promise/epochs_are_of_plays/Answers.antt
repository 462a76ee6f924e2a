use Rattle.spec_protocol.proofs.Kept.Plays.{epochs_of_plays}
use Rattle.spec_protocol.proofs.promise.epochs_are_of_plays.Goals as goal

pub returns : goal.returns
returns c = epochs_of_plays
