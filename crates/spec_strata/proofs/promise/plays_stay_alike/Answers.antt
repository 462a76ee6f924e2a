use Rattle.spec_strata.proofs.Plays.Staying.{plays_stay_alike}
use Rattle.spec_strata.proofs.promise.plays_stay_alike.Goals as goal

pub returns : goal.returns
returns c = plays_stay_alike
