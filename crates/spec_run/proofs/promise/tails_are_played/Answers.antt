use Rattle.spec_run.proofs.Tails.{tails_are_played}
use Rattle.spec_run.proofs.promise.tails_are_played.Goals as goal

pub returns : goal.returns
returns c = tails_are_played
