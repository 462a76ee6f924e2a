use Rattle.spec_run.proofs.Shown.{spheres_described}
use Rattle.spec_run.proofs.promise.spheres_are_described.Goals as goal

pub returns : goal.returns
returns c = spheres_described
