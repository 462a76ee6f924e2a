-- Who is told of a flight where it begins: the core that commits, and no other.
use Rattle.std.specs.Prelude.{◌≡◌, ◌≢◌, ℕ, true, false, Some, None}
use Rattle.spec_engine.specs.Flights.{Flight, at, told_at}
use Rattle.spec_protocol.specs.declared.event.Event.{Event}
use Rattle.spec_protocol.specs.machine.World.{World}
use Rattle.spec_protocol.specs.machine.Machine.{core_no, happens}

-- the event put the flight into slot k, which was free
pub record Begins (w : World) (e : Event) (k : ℕ) (f : Flight) : Type 0 where
  pub free : at w.slots k ≡ None
  pub stands : at (happens w e).world.slots k ≡ Some f

pub record CommittersAreTold : Type 0 where
  -- of an ask the core that asks, whole or as a piece
  pub asks : (w : World) (c k : ℕ) (f : Flight) → Begins w (Event.Ask c) k f
      → told_at f.told (core_no w c) ≡ true
  pub others : (w : World) (c k : ℕ) (f : Flight) → Begins w (Event.Ask c) k f → (d : ℕ)
      → d ≢ core_no w c → told_at f.told d ≡ false
  -- of a DMA no core
  pub dmas : (w : World) (i k : ℕ) (f : Flight) → Begins w (Event.Dma i) k f → (d : ℕ)
      → told_at f.told d ≡ false
