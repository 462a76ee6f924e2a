use Rattle.spec_sphere.proofs.Logs.SeenAlike.{seen_alike}
use Rattle.spec_sphere.proofs.promise.logs_are_seen_alike.Goals as goal

pub returns : goal.returns
returns c = seen_alike
