-- The machine in code.
use Rattle.std.specs.Prelude.{◌≡◌, ◌≤◌, List, length}
use Rattle.dl_entry.specs.declared.Counts.{Counts}
use Rattle.dl_entry.specs.declared.Point.{Point}
use Rattle.spec_engine.specs.Flights.{Flights}
use Rattle.spec_kernel.specs.Devices.{Devices}
use Rattle.spec_protocol.specs.machine.World.{World, EventOutcome}
use Rattle.spec_protocol.specs.machine.Machine.{with_point}
use Rattle.dl_machine.specs.Rows.{Cores, Spheres}

-- as a world
abbrev pub world_in : Cores → Spheres → Flights → Devices → Counts → List Point → World
world_in cores spheres flights devices counts points =
    record {
      numbers = record { s = spheres.s; capacity = cores.capacity; bits = cores.bits; depth = cores.depth };
      spheres = spheres.spheres;
      slots = flights.slots;
      cores = cores.held;
      devices = devices;
      counts = counts;
      points = points;
    }

-- each flight is told to the cores that there are, at most 8, which have room for the chunks of any sphere
pub record IsState (cores : Cores) (spheres : Spheres) (flights : Flights) : Type 0 where
  pub told : flights.cores ≡ length cores.held
  pub few : length cores.held ≤ 8
  pub most : cores.most ≡ spheres.most

-- the world that an event leaves, before it is counted
abbrev pub left : EventOutcome → World
left a = record a.world { points = with_point a.point a.world.points }
