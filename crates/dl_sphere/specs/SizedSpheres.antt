-- A sphere of the definitions, with the standard size of the plan's chunks.
use Rattle.std.specs.Prelude.{ℕ}
use Rattle.spec_sphere.specs.sphere.Spheres.{Sphere}

pub record SizedSphere : Type 0 where
  pub s : ℕ
  pub sphere : Sphere

abbrev pub with_sphere : Sphere → SizedSphere → SizedSphere
with_sphere p v = record v { sphere = p }
