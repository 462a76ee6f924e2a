use Rattle.spec_play.proofs.Bounds.{states_are_bounded}
use Rattle.spec_play.proofs.promise.states_are_bounded.Goals as goal

pub returns : goal.returns
returns c = states_are_bounded
