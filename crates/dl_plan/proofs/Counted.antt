-- A good plan has 1 to 8 spheres.
use Rattle.std.proofs.Common.{◌≤◌, IsTrue, List, length, arith}
use Rattle.std.proofs.lemmas.Bool.Decides.{nat_tests}
use Rattle.dl_plan.specs.Entries.{SphereEntries}
use Rattle.dl_plan.specs.Sizes.{has_good_spheres}

-- a plan that is good has 1 to 8 spheres
pub few_spheres : (spheres : List SphereEntries) → IsTrue (has_good_spheres spheres) → (1 ≤ length spheres) × (length spheres ≤ 8)
few_spheres spheres good = (grind (arith, nat_tests), grind (arith, nat_tests))
