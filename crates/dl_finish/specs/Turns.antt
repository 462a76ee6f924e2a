-- Whose turn it is, and what a core that runs a thread does next.
use Rattle.std.specs.Prelude.{ℕ, Option, Some, None, if◌then◌else◌}
use Rattle.dl_entry.specs.declared.Actor.{Actor}
use Rattle.spec_engine.specs.Flights.{at}
use Rattle.spec_protocol.specs.declared.event.Event.{Event}
use Rattle.spec_sphere.specs.sphere.Spheres.{Role, Plain, Record, Replay, actor_of}
use Rattle.spec_protocol.specs.machine.World.{World, Occupant, runs}
use Rattle.spec_protocol.specs.machine.Finishing.{for_held}

-- the actor whose turn it is in a replay that still goes on
abbrev pub turn_in : Role → Option Actor
turn_in Plain = None
turn_in (Record recording) = None
turn_in (Replay b) = actor_of b.now

abbrev pub if_runs : (core i thread : ℕ) → Option Occupant → Option Event
if_runs c i k None = None
if_runs c i k (Some h) = if runs i k h then for_held c (Some h) else None

-- what core c does next for thread k of sphere i, if it runs that
abbrev pub on_core : World → (core i thread : ℕ) → Option Event
on_core w c i k = if_runs c i k (at w.cores c)
