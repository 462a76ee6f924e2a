use Rattle.spec_engine.proofs.Covering.{chunks_covered}
use Rattle.spec_engine.proofs.laws.chunks_are_covered.Goals as goal

pub returns : goal.returns
returns c = chunks_covered
