use Rattle.spec_strata.proofs.Plays.Canonical.{canonical_order_plays}
use Rattle.spec_strata.proofs.promise.canonical_order_plays.Goals as goal

pub returns : goal.returns
returns c = canonical_order_plays
