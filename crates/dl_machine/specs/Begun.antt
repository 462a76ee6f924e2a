-- How far the epochs have begun that are due.
use Rattle.std.specs.Prelude.{◌≡◌, ℕ, zero, suc, true}
use Rattle.spec_sphere.specs.promises.Kept.{has_due}
use Rattle.spec_protocol.specs.machine.Epochs.{begun_at}
use Rattle.spec_protocol.specs.machine.World.{World, sphere_at}

-- in the first n spheres
abbrev pub begun_first : (n : ℕ) → World → World
begun_first zero w = w
begun_first (suc n) w = begun_at n (begun_first n w)

-- in the first few spheres, or in none, and all else is as before
pub record HasBegunSome (old new : World) : Type 0 where
  pub many : ℕ
  pub begun : new ≡ begun_first many old

-- one is due in some sphere
pub record IsOneDue (w : World) : Type 0 where
  pub sphere : ℕ
  pub due : has_due (sphere_at w sphere) ≡ true
