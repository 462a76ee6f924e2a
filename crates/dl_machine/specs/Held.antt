-- What the code sees of what a core holds.
use Rattle.std.specs.Prelude.{ℕ, ◌<◌, length}
use Rattle.spec_engine.specs.Flights.{Flight}
use Rattle.spec_protocol.specs.machine.World.{World, sphere_at}
use Rattle.dl_machine.specs.declared.one_core.Held.{Held}

-- it is of a sphere and a thread that there are
pub record IsOf (w : World) (h : Held) : Type 0 where
  pub sphere : h.sphere < length w.spheres
  pub thread : h.thread < length (sphere_at w h.sphere).threads

-- the sphere that a flight is of
abbrev pub sphere_of : Flight → ℕ
sphere_of f = f.sphere
