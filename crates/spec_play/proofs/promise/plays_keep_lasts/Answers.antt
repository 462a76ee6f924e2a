use Rattle.spec_play.proofs.Lasts.{plays_keep_lasts}
use Rattle.spec_play.proofs.promise.plays_keep_lasts.Goals as goal

pub returns : goal.returns
returns c = plays_keep_lasts
