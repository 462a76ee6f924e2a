use Rattle.dl_fly.proofs.Free.{AreSlots-changed}
use Rattle.dl_fly.proofs.flights.Flights.deliver.Goals as goal

pub invariant_of-self : goal.invariant_of-self
invariant_of-self g c =
    AreSlots-changed _ c.self.inside.slots.items _ c.args.k c.deliver.new.slot c.index_mut.result.now c.index_mut.ensures.value c.deliver.ensures.free c.self.invariant
