-- Events can't tell what a recording in epochs still has.
use Rattle.spec_protocol.specs.promises.Alike.{EventsAreAlike}
use Rattle.spec_protocol.proofs.Alike.Events.{happen-alike}
use Rattle.spec_protocol.proofs.Alike.Good.{good-alike}
use Rattle.spec_protocol.proofs.Alike.Beginning.{begun-alike}

-- what is promised of worlds that are alike
pub events_alike : EventsAreAlike
events_alike = record { each = happen-alike; begun = begun-alike; good = good-alike }
