-- The rows of cores and of spheres in code.
use Rattle.std.specs.Prelude.{◌≡◌, ℕ, ◌≤◌, true, All, length, List, Option, slice_set, slice_index_or}
use Rattle.spec_engine.specs.Flights.{at}
use Rattle.spec_engine.specs.Signatures.{is_size}
use Rattle.spec_sphere.specs.sphere.Spheres.{Sphere, no_sphere}
use Rattle.spec_protocol.specs.machine.World.{Occupant, Numbers}
use Rattle.spec_sphere.specs.promises.Sound.{IsChunkSize}
use Rattle.dl_sphere.specs.Setups.{standard_in}
use Rattle.dl_sphere.specs.SizedSpheres.{SizedSphere}
use Rattle.dl_machine.specs.Cores.{Core}

-- the most instructions that a chunk may run, the words that a buffer holds, the bits of a signature, how many chunks a core
-- may have, and what each core holds
pub record Cores : Type 0 where
  pub most : ℕ
  pub capacity : ℕ
  pub bits : ℕ
  pub depth : ℕ
  pub held : List (Option Occupant)

-- the cores are alike
pub record IsAlike (instructions words lines chunks : ℕ) (c : Core) : Type 0 where
  pub most : c.most ≡ instructions
  pub capacity : c.capacity ≡ words
  pub bits : c.bits ≡ lines
  pub depth : c.depth ≡ chunks

pub record AreCores (instructions capacity bits depth : ℕ) (row : List Core) : Type 0 where
  pub some_core : 1 ≤ length row
  pub most_cores : length row ≤ 8
  pub least : 1 ≤ capacity
  pub most : capacity ≤ 4096
  pub size : is_size bits ≡ true
  pub each : All (IsAlike instructions capacity bits depth) row

abbrev pub held_by : Core → Option Occupant
held_by c = c.held

-- core c
abbrev pub core_in : Cores → (core : ℕ) → Core
core_in r c = record { most = r.most; capacity = r.capacity; bits = r.bits; depth = r.depth; held = at r.held c }

-- with this held by core c
abbrev pub with_held : (core : ℕ) → Option Occupant → Cores → Cores
with_held c held r = record r { held = slice_set r.held c held }

-- the standard size of the plan's chunks, the greatest standard size of any sphere, and the spheres
pub record Spheres : Type 0 where
  pub s : ℕ
  pub most : ℕ
  pub spheres : List Sphere

abbrev pub sphere_in : SizedSphere → Sphere
sphere_in p = p.sphere

-- the spheres have one standard size of the plan, and their own is none greater than this
pub record IsOfStandard (s most : ℕ) (p : SizedSphere) : Type 0 where
  pub standard : p.s ≡ s
  pub within : standard_in p.s p.sphere.role ≤ most

pub record AreSpheres (s most : ℕ) (row : List SizedSphere) : Type 0 where
  pub size : IsChunkSize most
  pub some_sphere : 1 ≤ length row
  pub most_spheres : length row ≤ 8
  pub each : All (IsOfStandard s most) row

abbrev pub nth_sphere : (i : ℕ) → Spheres → Sphere
nth_sphere i r = slice_index_or r.spheres i no_sphere

abbrev pub with_nth : (i : ℕ) → Sphere → Spheres → Spheres
with_nth i p r = record r { spheres = slice_set r.spheres i p }

-- the numbers of the cores and a sphere
abbrev pub numbers_in : Cores → SizedSphere → Numbers
numbers_in r p = record { s = p.s; capacity = r.capacity; bits = r.bits; depth = r.depth }
