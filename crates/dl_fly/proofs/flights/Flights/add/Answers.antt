use Rattle.std.proofs.Common.{rules}
use Rattle.dl_fly.proofs.Free.{AreSlots-filled}
use Rattle.dl_fly.proofs.flights.Flights.add.Goals as goal

pub invariant_of-self : goal.invariant_of-self
invariant_of-self g c =
    AreSlots-filled _ c.self.inside.slots.items _ c.in-Some.k c.args.flight (search rules) c.self.invariant
