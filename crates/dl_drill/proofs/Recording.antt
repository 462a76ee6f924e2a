-- A row of one sphere, which can be recorded if it is.
use Rattle.std.proofs.Common.{ℕ, zero, suc, [], ◌∷◌, All, arith}
use Rattle.spec_sphere.specs.sphere.Setups.{SphereSetup}
use Rattle.dl_sphere.specs.Setups.{HasBegun, IsRecordableIf}
use Rattle.dl_sphere.specs.declared.setup.SphereSetup.{SphereSetup as Setup}

-- if a sphere can be recorded, so can each sphere of the list that has it alone
pub one_recordable : (s : ℕ) (p : SphereSetup) → IsRecordableIf s p.role → All (λ image. IsRecordableIf s image.role) (p ∷ [])
one_recordable s p is zero d l = is
one_recordable s p is (suc k) d l = absurd (omega arith)

-- or whose interval begins in its log's play
pub one_begun : (p : Setup) → HasBegun p → All HasBegun (p ∷ [])
one_begun p is zero d l = is
one_begun p is (suc k) d l = absurd (omega arith)
