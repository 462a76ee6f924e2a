use Rattle.spec_strata.proofs.Plays.LastParts.{last_parts_go}
use Rattle.spec_strata.proofs.promise.last_parts_go.Goals as goal

pub returns : goal.returns
returns c = last_parts_go
