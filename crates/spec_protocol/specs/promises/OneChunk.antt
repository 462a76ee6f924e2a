-- In a machine of depth 1 a core has one chunk at a time, as if there were no younger ones.
use Rattle.std.specs.Prelude.{◌≡◌, ℕ, List, Some, None}
use Rattle.spec_engine.specs.Flights.{at}
use Rattle.spec_protocol.specs.declared.event.Event.{Event}
use Rattle.spec_protocol.specs.machine.World.{Occupant, World, sphere_at}
use Rattle.spec_protocol.specs.machine.Stepping.{younger_for}
use Rattle.spec_protocol.specs.machine.Machine.{Setup}
use Rattle.spec_protocol.specs.promises.Promises.{IsSetup, after}

-- no younger chunk is there, and Step begins none
pub record HasOneChunk (w : World) (h : Occupant) : Type 0 where
  pub alone : h.younger ≡ None
  pub stays : younger_for w.numbers (sphere_at w h.chunk.sphere).role h h.younger ≡ None

-- so it is of whatever a core holds after a schedule
abbrev pub CoresHaveOneChunk : Type 0
CoresHaveOneChunk =
    (s : Setup) (es : List Event) (c : ℕ) (h : Occupant) → IsSetup s → s.numbers.depth ≡ 1
    → at (after s es).cores c ≡ Some h → HasOneChunk (after s es) h
