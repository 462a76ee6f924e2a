-- What a world shows: its spheres with their current memories, without speculation and flights.
use Rattle.std.specs.Prelude.{ℕ, suc, List, [], ◌∷◌, Option}
use Rattle.spec_isa.specs.Words.{lays}
use Rattle.spec_engine.specs.Flights.{Flight}
use Rattle.spec_sphere.specs.sphere.Spheres.{Sphere}
use Rattle.spec_protocol.specs.machine.World.{World}
use Rattle.spec_protocol.specs.machine.Serial.{SerialState}
use Rattle.spec_engine.specs.Flying.{flying}

-- sphere i with its current memory: the words left in its flights are laid over it
unfoldable pub shown : List (Option Flight) → (i : ℕ) → Sphere → Sphere
shown slots i p = record p { memory = lays p.memory (flying i slots) }

-- the spheres from number i on
abbrev pub shown_from : List (Option Flight) → (i : ℕ) → List Sphere → List Sphere
shown_from slots i [] = []
shown_from slots i (p ∷ ps) = shown slots i p ∷ shown_from slots (suc i) ps

abbrev pub shown_of : World → SerialState
shown_of w = record { spheres = shown_from w.slots 0 w.spheres; devices = w.devices }
