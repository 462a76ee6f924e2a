use Rattle.spec_protocol.proofs.Invariants.OneChunk.{cores_have_one}
use Rattle.spec_protocol.proofs.promise.cores_have_one_chunk.Goals as goal

pub returns : goal.returns
returns c = cores_have_one
