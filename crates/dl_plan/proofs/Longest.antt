-- A chunk that passes the test of each log can be had by each.
use Rattle.std.proofs.Common.{◌≡◌, ℕ, true, List, [], ◌∷◌, arith}
use Rattle.std.proofs.lemmas.Bool.{and_parts}
use Rattle.std.proofs.lemmas.Bool.Decides.{nat_tests}
use Rattle.std.specs.List.{list_all}
use Rattle.dl_plan.specs.Plans.{can_have}
use Rattle.dl_plan.specs.Values.{RoleValues, Plain, Record, Replay, InStrata, SphereValues, CanHave, CanAllHave}

role_can : (chunk : ℕ) (role : RoleValues) → can_have chunk role ≡ true → CanHave chunk role
role_can chunk Plain can = tt
role_can chunk (Record values) can = grind (arith, nat_tests)
role_can chunk (Replay values) can = tt
role_can chunk (InStrata strata) can = tt

-- a chunk's length that passes the test of every sphere is one that each recorded log can have
pub all_can : (chunk : ℕ) (spheres : List SphereValues) → list_all (λ (s : SphereValues). can_have chunk s.role) spheres ≡ true → CanAllHave chunk spheres
all_can chunk [] can = tt
all_can chunk (s ∷ ss) can = (role_can chunk s.role (and_parts _ _ can).0, all_can chunk ss (and_parts _ _ can).1)
