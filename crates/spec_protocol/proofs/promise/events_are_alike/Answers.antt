use Rattle.spec_protocol.proofs.Alike.All.{events_alike}
use Rattle.spec_protocol.proofs.promise.events_are_alike.Goals as goal

pub returns : goal.returns
returns c = events_alike
