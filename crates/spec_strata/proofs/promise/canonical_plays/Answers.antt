use Rattle.spec_strata.proofs.Plays.Canonical.{canonical_plays}
use Rattle.spec_strata.proofs.promise.canonical_plays.Goals as goal

pub returns : goal.returns
returns c = canonical_plays
