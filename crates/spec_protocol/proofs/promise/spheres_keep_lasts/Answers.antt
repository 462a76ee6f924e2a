use Rattle.spec_protocol.proofs.Invariants.Lasts.{spheres_keep_lasts}
use Rattle.spec_protocol.proofs.promise.spheres_keep_lasts.Goals as goal

pub returns : goal.returns
returns c = spheres_keep_lasts
