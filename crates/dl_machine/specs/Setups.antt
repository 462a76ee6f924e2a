-- What a machine is made of.
use Rattle.std.specs.Prelude.{◌≡◌, ℕ, ◌≤◌, true, max, All, map, length, List, [], ◌∷◌, Option, Some, None}
use Rattle.spec_engine.specs.Signatures.{is_size}
use Rattle.spec_sphere.specs.sphere.Spheres.{Sphere}
use Rattle.spec_protocol.specs.machine.World.{Occupant, Numbers, held_afresh}
use Rattle.spec_protocol.specs.machine.Machine as protocol
use Rattle.spec_sphere.specs.promises.Sound.{IsChunkSize}
use Rattle.spec_protocol.specs.promises.Sound.{AreFew}
use Rattle.dl_sphere.specs.declared.setup.SphereSetup.{SphereSetup}
use Rattle.dl_sphere.specs.Setups.{HasBegun, IsRecordableIf, role_setup, setup_of, standard_asked}
use Rattle.dl_machine.specs.declared.setup.Setup.{Setup}
use Rattle.dl_machine.specs.Rows.{Spheres}

-- as the definitions have it
abbrev pub setup_in : Setup → protocol.Setup
setup_in s =
    record {
      cores = s.cores;
      window = s.window;
      numbers = record { s = s.s; capacity = s.capacity; bits = s.bits; depth = s.depth };
      seed = s.seed;
      input = s.input;
      spheres = map setup_of s.spheres;
    }

-- its numbers are within the limits, standard chunks fit the version of each log that is recorded, and each interval that is
-- replayed begins in its log's play
pub record IsWithin (s : Setup) : Type 0 where
  pub cores : AreFew s.cores
  pub window : AreFew s.window
  pub few : AreFew (length s.spheres)
  pub chunk : IsChunkSize s.s
  pub least : 1 ≤ s.capacity
  pub most : s.capacity ≤ 4096
  pub signature : is_size s.bits ≡ true
  pub depth : 1 ≤ s.depth
  pub most_depth : s.depth ≤ 2
  pub recorded : All (λ image. IsRecordableIf s.s image.role) (map setup_of s.spheres)
  pub begun : All HasBegun s.spheres

-- the greatest standard size: that of the plan, or of a log that is replayed
abbrev pub greatest : (s : ℕ) → List SphereSetup → ℕ
greatest s [] = s
greatest s (sphere ∷ spheres) = max (standard_asked s (role_setup sphere.role)) (greatest s spheres)

-- the numbers of a setup whose spheres are made
abbrev pub numbers_with : Setup → Spheres → Numbers
numbers_with s r = record { s = r.s; capacity = s.capacity; bits = s.bits; depth = s.depth }

-- what core i holds at first: thread 0 of its own sphere, if there is one
abbrev pub first_held : Numbers → (i : ℕ) → Option Sphere → Option Occupant
first_held z i None = None
first_held z i (Some p) = held_afresh z i 0 p
