use Rattle.spec_play.proofs.Walking.{walks_are_plays}
use Rattle.spec_play.proofs.promise.walks_are_plays.Goals as goal

pub returns : goal.returns
returns c = walks_are_plays
