-- Worlds that differ only in what their recordings in epochs still have of earlier commits: no event can tell them apart. So
-- what was recorded earlier can be given up.
use Rattle.std.specs.Prelude.{◌≡◌, map, All}
use Rattle.spec_protocol.specs.declared.event.Event.{Event}
use Rattle.spec_protocol.specs.machine.World.{World, EventOutcome}
use Rattle.spec_protocol.specs.machine.Machine.{happens}
use Rattle.spec_protocol.specs.machine.Epochs.{epochs_begun}
use Rattle.spec_protocol.specs.promises.Invariants.{IsGood}
use Rattle.spec_sphere.specs.promises.Alike.{epochs_in, forgotten, HaveBegunIf}

-- ---- a sphere without what it has recorded

abbrev pub all_forgotten : World → World
all_forgotten w = record w { spheres = map forgotten w.spheres }

-- ---- alike

-- the spheres are alike one by one, and all else is the same
abbrev pub AreAlike : World → World → Type 0
AreAlike w v = all_forgotten w ≡ all_forgotten v

-- an event has answered the same, and done the same
pub record EndAlike (a b : EventOutcome) : Type 0 where
  pub reply : a.reply ≡ b.reply
  pub point : a.point ≡ b.point
  pub move : a.move ≡ b.move
  pub worlds : AreAlike a.world b.world

-- ---- where epochs have begun

-- in each sphere
abbrev pub HaveAllBegun : World → Type 0
HaveAllBegun w = All (λ p. HaveBegunIf p.progress (epochs_in p.role)) w.spheres

-- ---- what is promised

pub record EventsAreAlike : Type 0 where
  -- one event after another, in worlds that are alike
  pub each : (w v : World) (e : Event) → AreAlike w v → EndAlike (happens w e) (happens v e)
  -- nor do epochs that begin, and those that are given up, make a difference
  pub begun : (w : World) → HaveAllBegun w → AreAlike (epochs_begun w) w
  -- so the invariant holds of both or of neither
  pub good : (w v : World) → AreAlike w v → IsGood w → IsGood v
