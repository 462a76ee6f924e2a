-- Each sphere of a plan, and each that is read of it, has a size of memory that is good.
use Rattle.std.proofs.Common.{◌≡◌, ℕ, zero, suc, ◌+◌, ◌<◌, List, [], ◌∷◌, ◌++◌, length, map, get_or, refl, arith}
use Rattle.std.specs.List.{AllByRecursion}
use Rattle.dl_plan.specs.declared.Sphere.{Sphere}
use Rattle.dl_plan.specs.Values.{SphereValues, IsMemory, AreMemories, sphere_view as planned}
use Rattle.spec_program.specs.Files.{SphereRead}
use Rattle.dl_gather.specs.declared.inputs.SphereInputs.{SphereInputs}
use Rattle.dl_gather.specs.Inputs.{HaveMemories, sphere_view}

-- an entry of a list, all of whose entries have a property
pub all_at : {X Y : Type 0} (P : Y → Type 0) (f : X → Y) (xs : List X) (i : ℕ) (d : X) → AllByRecursion P (map f xs) → i < length xs → P (f (get_or xs i d))
all_at P f [] i d all h = absurd (omega arith)
all_at P f (x ∷ xs) zero d all h = all.0
all_at P f (x ∷ xs) (suc i) d all h = all_at P f xs i d all.1 (omega arith)

-- ---- memories

-- where all that is read has good sizes of memory, that of sphere i is one
pub memory_at : (inputs : List SphereInputs) (i : ℕ) (d : SphereInputs) → HaveMemories (map sphere_view inputs) → i < length inputs → IsMemory (get_or inputs i d).memory
memory_at inputs i d have h = all_at (λ (s : SphereRead). IsMemory s.memory) sphere_view inputs i d have h

-- where all planned spheres have good sizes of memory, that of sphere i is one
pub planned_memory : (spheres : List Sphere) (i : ℕ) (d : Sphere) → AreMemories (map planned spheres) → i < length spheres → IsMemory (get_or spheres i d).memory
planned_memory spheres i d are h = all_at (λ (s : SphereValues). IsMemory s.memory) planned spheres i d are h

-- with one element more, which has a property, all have it
pub all_pushed : {X Y : Type 0} (P : Y → Type 0) (f : X → Y) (xs : List X) (x : X) → AllByRecursion P (map f xs) → P (f x) → AllByRecursion P (map f (xs ++ x ∷ []))
all_pushed P f [] x all is = (is, tt)
all_pushed P f (y ∷ ys) x all is = (all.0, all_pushed P f ys x all.1 is)

-- with one sphere more, which has a good size of memory, all have
pub more_memories : (inputs : List SphereInputs) (x : SphereInputs) → HaveMemories (map sphere_view inputs) → IsMemory x.memory → HaveMemories (map sphere_view (inputs ++ x ∷ []))
more_memories inputs x have is = all_pushed (λ (s : SphereRead). IsMemory s.memory) sphere_view inputs x have is

-- with one element more a list is longer by one
pub length_pushed : {X : Type 0} (xs : List X) (x : X) → length (xs ++ x ∷ []) ≡ length xs + 1
length_pushed [] x = refl
length_pushed (y ∷ ys) x = let rest = length_pushed ys x in omega (arith, rest)
