use Rattle.spec_engine.proofs.Marking.{covers_hit, hits_more, hits_more_left, hits_one}
use Rattle.spec_engine.proofs.laws.signatures_hit.Goals as goal

pub returns : goal.returns
returns c = record { shared = covers_hit; kept = hits_more; kept_left = hits_more_left; alone = hits_one }
