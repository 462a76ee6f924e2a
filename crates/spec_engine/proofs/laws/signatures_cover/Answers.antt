use Rattle.spec_engine.proofs.Marking.{covers_insert, covers_more}
use Rattle.spec_engine.proofs.laws.signatures_cover.Goals as goal

pub returns : goal.returns
returns c = record { inserted = covers_insert; earlier = covers_more }
