-- The cores that a machine begins with are as many as were asked for, each with what it holds at first.
use Rattle.std.proofs.Common.{◌≡◌, ℕ, zero, suc, ◌+◌, List, [], ◌∷◌, ◌++◌, length, Option, Some, None, refl, sym, ap, ◌∙◌, arith}
use Rattle.std.specs.Prelude.{slice_get}
use Rattle.spec_sphere.specs.sphere.Spheres.{Sphere}
use Rattle.spec_protocol.specs.machine.World.{Occupant, Numbers}
use Rattle.spec_protocol.specs.machine.Machine.{first_cores}
use Rattle.dl_machine.specs.Setups.{first_held}

more_cores : (z : Numbers) (i n : ℕ) (ps : List Sphere) → first_cores z i (suc n) ps ≡ first_cores z i n ps ++ first_held z (i + n) (slice_get ps n) ∷ []
more_cores z i zero [] = refl
more_cores z i zero (p ∷ ps) = let e : i + 0 ≡ i = omega arith in ap (λ (j : ℕ). first_held z j (Some p) ∷ []) (sym e)
more_cores z i (suc n) [] = ap (λ (hs : List (Option Occupant)). None ∷ hs) (more_cores z (suc i) n [])
more_cores z i (suc n) (p ∷ ps) =
    let e : suc i + n ≡ i + suc n = omega arith in
    ap (λ (hs : List (Option Occupant)). first_held z i (Some p) ∷ hs) (more_cores z (suc i) n ps)
    ∙ ap (λ (j : ℕ). first_held z i (Some p) ∷ (first_cores z (suc i) n ps ++ first_held z j (slice_get ps n) ∷ [])) e

-- the first cores, where there is one more, are those without it and then that one
pub first_more : (z : Numbers) (n : ℕ) (ps : List Sphere) → first_cores z 0 (n + 1) ps ≡ first_cores z 0 n ps ++ first_held z n (slice_get ps n) ∷ []
first_more z n ps =
    let e : n + 1 ≡ suc n = omega arith in
    let f : 0 + n ≡ n = omega arith in
    ap (λ (j : ℕ). first_cores z 0 j ps) e
    ∙ more_cores z 0 n ps
    ∙ ap (λ (j : ℕ). first_cores z 0 n ps ++ first_held z j (slice_get ps n) ∷ []) f

-- a machine begins with as many cores as it is to have
pub first_length : (z : Numbers) (i n : ℕ) (ps : List Sphere) → length (first_cores z i n ps) ≡ n
first_length z i zero ps = refl
first_length z i (suc n) [] = ap suc (first_length z (suc i) n [])
first_length z i (suc n) (p ∷ ps) = ap suc (first_length z (suc i) n ps)
