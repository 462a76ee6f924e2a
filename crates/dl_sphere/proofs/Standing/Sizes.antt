-- No commit and no interrupt changes the standard size of a sphere's chunks.
use Rattle.std.proofs.Common.{◌≡◌, ℕ, Bool, List, Option, refl}
use Rattle.dl_entry.specs.declared.Commit.{Commit}
use Rattle.dl_entry.specs.declared.Input.{Input}
use Rattle.spec_play.specs.declared.used.Used.{Used}
use Rattle.dl_sphere.specs.Roles.{Keeping, Plain, Recording, Replaying, role_of, with_noted, with_raised}
use Rattle.dl_sphere.specs.Setups.{standard_in}

-- noting a commit leaves the standard size of a sphere's chunks as it is
pub noted_size : (u : Used) (s : ℕ) (c : Commit) (short : Bool) (input : Option Input) (dma : Option (List ℕ)) (x : Keeping) → standard_in s (role_of u (with_noted c short input dma x)) ≡ standard_in s (role_of u x)
noted_size u s c short input dma Plain = refl
noted_size u s c short input dma (Recording r) = refl
noted_size u s c short input dma (Replaying r loads) = refl

-- an interrupt leaves the standard size of a sphere's chunks as it is
pub raised_size : (u : Used) (s thread index value : ℕ) (x : Keeping) → standard_in s (role_of u (with_raised thread index value x)) ≡ standard_in s (role_of u x)
raised_size u s thread index value Plain = refl
raised_size u s thread index value (Recording r) = refl
raised_size u s thread index value (Replaying r loads) = refl
