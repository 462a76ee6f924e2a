use Rattle.spec_strata.proofs.Logs.Blocks.{blocks_interleave}
use Rattle.spec_strata.proofs.promise.blocks_interleave.Goals as goal

pub returns : goal.returns
returns c = blocks_interleave
