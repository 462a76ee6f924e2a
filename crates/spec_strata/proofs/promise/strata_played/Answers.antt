use Rattle.spec_strata.proofs.Plays.Strata.{strata_played}
use Rattle.spec_strata.proofs.promise.strata_played.Goals as goal

pub returns : goal.returns
returns c = strata_played
