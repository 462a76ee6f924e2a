-- What is noted of commits, and what comes for them from outside, fits a log.
use Rattle.std.specs.Prelude.{◌≡◌, ℕ, ◌≤◌, true, false, Some}
use Rattle.spec_engine.specs.declared.answers.How.{How}
use Rattle.spec_engine.specs.Flights.{at}
use Rattle.spec_engine.specs.Closing.{is_short}
use Rattle.spec_sphere.specs.sphere.Spheres.{replays}
use Rattle.spec_protocol.specs.machine.World.{Occupant, World, moment, sphere_at}
use Rattle.spec_protocol.specs.machine.Machine.{Setup}
use Rattle.spec_protocol.specs.promises.Invariants.{IsGood}
use Rattle.spec_protocol.specs.promises.Sound.{IsWithinLimits, IsSound}
use Rattle.spec_sphere.specs.promises.Notable.{FitsLog}

-- a chunk that was closed so: it is no larger than a standard chunk, and over 0 where it is short
pub record IsNotable (s : ℕ) (h : Occupant) (how : How) : Type 0 where
  pub size : h.chunk.done.n ≤ s
  pub over : is_short s how h.chunk.limit ≡ true → 1 ≤ h.chunk.done.n

-- core c holds h, which was closed so, of a plain or recorded sphere
pub record IsClosed (w : World) (c : ℕ) (h : Occupant) (how : How) : Type 0 where
  pub is : at w.cores c ≡ Some h
  pub closed : h.chunk.closed ≡ Some how
  pub live : replays (sphere_at w h.chunk.sphere).role ≡ false

pub record FitsLogs (w : World) : Type 0 where
  pub spheres : (i : ℕ) → FitsLog (moment w) w.devices (sphere_at w i)
  pub chunks : (c : ℕ) (h : Occupant) (how : How) → IsClosed w c h how → IsNotable w.numbers.s h how

abbrev pub NotesFitLogs : Type 0
NotesFitLogs = (s : Setup) (w : World) → IsWithinLimits s → IsGood w → IsSound s w → FitsLogs w
