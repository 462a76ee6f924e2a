-- Epochs begin between two events, in each sphere where one is due, so that no event sees what is given up.
use Rattle.std.specs.Prelude.{ℕ, suc, ◌-◌, List, [], ◌∷◌, Option}
use Rattle.spec_isa.specs.Words.{lays}
use Rattle.spec_engine.specs.Flights.{Flight}
use Rattle.spec_sphere.specs.sphere.Spheres.{Sphere}
use Rattle.spec_protocol.specs.machine.World.{World, sphere_at, with_sphere}
use Rattle.spec_engine.specs.Flying.{flying}
use Rattle.spec_sphere.specs.sphere.Epochs.{epoch_begun}

-- in sphere i of a world alone
abbrev pub begun_at : (i : ℕ) → World → World
begun_at i w = let p = sphere_at w i in with_sphere w i (epoch_begun (lays p.memory (flying i w.slots)) p)

-- the spheres from number i on
abbrev pub begun_from : List (Option Flight) → (i : ℕ) → List Sphere → List Sphere
begun_from slots i [] = []
begun_from slots i (p ∷ ps) = epoch_begun (lays p.memory (flying i slots)) p ∷ begun_from slots (suc i) ps

-- in each sphere in which one is due
unfoldable pub epochs_begun : World → World
epochs_begun w = record w { spheres = begun_from w.slots 0 w.spheres }
