-- What is left of all spheres changes, if one of them does, by what is left of it.
use Rattle.std.proofs.Common.{◌≡◌, ℕ, zero, suc, ◌+◌, ◌≤◌, false, List, [], ◌∷◌, Option, Some, refl, arith, set}
use Rattle.std.specs.Prelude.{slice_get}
use Rattle.std.proofs.lemmas.Bool.{true≢false}
use Rattle.std.proofs.lemmas.Option.{none-some}
use Rattle.spec_engine.specs.Flights.{Flight}
use Rattle.spec_sphere.specs.sphere.Spheres.{Role, Plain, Record, Replay, Sphere, replays}
use Rattle.spec_sphere.specs.sphere.Setups.{SphereSetup}
use Rattle.spec_protocol.specs.machine.Shown.{shown, shown_from}
use Rattle.spec_finishing.specs.Rank.{role_rank, spheres_rank}

-- what is left of sphere p, which began as this image
abbrev pub sphere_rank : (c : ℕ) → SphereSetup → Sphere → ℕ
sphere_rank c image p = role_rank c image p p.role

-- if one sphere becomes another, what is left of all changes by the difference between the two
pub spheres-set : (c : ℕ) (images : List SphereSetup) (ps : List Sphere) (i : ℕ) (image : SphereSetup) (p q : Sphere) → slice_get images i ≡ Some image → slice_get ps i ≡ Some p
    → spheres_rank c images (set ps i q) + sphere_rank c image p ≡ spheres_rank c images ps + sphere_rank c image q
spheres-set c [] ps i image p q there is = absurd (none-some image there)
spheres-set c (a ∷ images) [] i image p q there is = absurd (none-some p is)
spheres-set c (a ∷ images) (x ∷ ps) zero image p q there is =
    let e : x ≡ p = cc in
    let f : a ≡ image = cc in
    let h : sphere_rank c a x ≡ sphere_rank c image p = (λ i. sphere_rank c (f i) (e i)) in
    let g : sphere_rank c a q ≡ sphere_rank c image q = (λ i. sphere_rank c (f i) q) in
    omega (arith, h, g)
spheres-set c (a ∷ images) (x ∷ ps) (suc i) image p q there is = let r = spheres-set c images ps i image p q there is in omega (arith, r)

-- if one sphere pays, all do
pub spheres-pay : (c : ℕ) (images : List SphereSetup) (ps : List Sphere) (i : ℕ) (image : SphereSetup) (p q : Sphere) (l n : ℕ) → slice_get images i ≡ Some image → slice_get ps i ≡ Some p → sphere_rank c image q + l ≤ sphere_rank c image p + n
    → spheres_rank c images (set ps i q) + l ≤ spheres_rank c images ps + n
spheres-pay c images ps i image p q l n there is pays = let r = spheres-set c images ps i image p q there is in omega (arith, r, pays)

-- flying words make no difference to what the spheres have left
pub spheres-shown : (c : ℕ) (images : List SphereSetup) (xs : List (Option Flight)) (n : ℕ) (ps : List Sphere) → spheres_rank c images (shown_from xs n ps) ≡ spheres_rank c images ps
unfolding shown
spheres-shown c [] xs n ps = refl
spheres-shown c (a ∷ images) xs n [] = refl
spheres-shown c (a ∷ images) xs n (p ∷ ps) = let r = spheres-shown c images xs (suc n) ps in omega (arith, r)

-- nothing is left of a plain or recorded one
live_none : (c : ℕ) (image : SphereSetup) (p : Sphere) (role : Role) → replays role ≡ false → role_rank c image p role ≡ 0
live_none c image p Plain e = refl
live_none c image p (Record recording) e = refl
live_none c image p (Replay b) e = absurd (true≢false e)

-- a sphere that isn't replayed has nothing left
pub sphere-live : (c : ℕ) (image : SphereSetup) (p : Sphere) → replays p.role ≡ false → sphere_rank c image p ≡ 0
sphere-live c image p e = live_none c image p p.role e

-- one sphere has no more left than all
pub sphere-least : (c : ℕ) (images : List SphereSetup) (ps : List Sphere) (i : ℕ) (image : SphereSetup) (p : Sphere) → slice_get images i ≡ Some image → slice_get ps i ≡ Some p → sphere_rank c image p ≤ spheres_rank c images ps
sphere-least c [] ps i image p there is = absurd (none-some image there)
sphere-least c (a ∷ images) [] i image p there is = absurd (none-some p is)
sphere-least c (a ∷ images) (x ∷ ps) zero image p there is =
    let e : x ≡ p = cc in
    let f : a ≡ image = cc in
    let h : sphere_rank c a x ≡ sphere_rank c image p = (λ i. sphere_rank c (f i) (e i)) in
    omega (arith, h)
sphere-least c (a ∷ images) (x ∷ ps) (suc i) image p there is = let r = sphere-least c images ps i image p there is in omega (arith, r)
