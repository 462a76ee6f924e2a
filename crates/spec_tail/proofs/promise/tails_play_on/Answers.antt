use Rattle.spec_tail.proofs.PlayingOn.{tails-play-on}
use Rattle.spec_tail.proofs.promise.tails_play_on.Goals as goal

pub returns : goal.returns
returns c = tails-play-on
