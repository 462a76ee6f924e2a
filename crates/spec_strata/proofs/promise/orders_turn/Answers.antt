use Rattle.spec_strata.proofs.Plays.Turning.{orders_turn}
use Rattle.spec_strata.proofs.promise.orders_turn.Goals as goal

pub returns : goal.returns
returns c = orders_turn
