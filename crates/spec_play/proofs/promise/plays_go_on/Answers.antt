use Rattle.spec_play.proofs.Resuming.{plays_go_on}
use Rattle.spec_play.proofs.promise.plays_go_on.Goals as goal

pub returns : goal.returns
returns c = plays_go_on
