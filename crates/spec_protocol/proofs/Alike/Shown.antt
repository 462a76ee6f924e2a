-- What worlds that are alike show is alike.
use Rattle.std.proofs.Common.{◌≡◌, ℕ, suc, zero, List, [], ◌∷◌, map, Option, Some, refl, ap, subst}
use Rattle.std.specs.Prelude.{slice_get}
use Rattle.std.proofs.lemmas.Option.{none-some, same_Some}
use Rattle.spec_isa.specs.Words.{lays}
use Rattle.spec_engine.specs.Flights.{Flight}
use Rattle.spec_sphere.specs.sphere.Spheres.{Sphere}
use Rattle.spec_protocol.specs.machine.Shown.{shown, shown_from, shown_of}
use Rattle.spec_engine.specs.Flying.{flying}
use Rattle.spec_protocol.specs.machine.World.{World}
use Rattle.spec_sphere.specs.promises.Alike.{forgotten}
use Rattle.spec_protocol.specs.promises.Alike.{AreAlike}
use Rattle.spec_sphere.proofs.Alike.Shown.{IsShownAs, head_same, tail_same}

shown_as : (slots : List (Option Flight)) (i : ℕ) (p q : Sphere) → forgotten p ≡ forgotten q → forgotten (shown slots i p) ≡ forgotten (shown slots i q)
unfolding shown
shown_as slots i p q same = (λ j. record (same j) { memory = lays (same j).memory (flying i slots) })

from_as : (slots : List (Option Flight)) (i k : ℕ) (ps qs : List Sphere) (p : Sphere) → map forgotten ps ≡ map forgotten qs → slice_get (shown_from slots i ps) k ≡ Some p → IsShownAs (slice_get (shown_from slots i qs) k) p
from_as slots i k [] qs p same e = absurd (none-some p e)
from_as slots i k (x ∷ xs) [] p same e = cc
from_as slots i zero (x ∷ xs) (y ∷ ys) p same e =
    let here : forgotten x ≡ forgotten y = (head_same same) in
    (shown slots i y, refl, subst (λ (z : Sphere). forgotten z ≡ forgotten (shown slots i y)) (same_Some _ _ e) (shown_as slots i x y here))
from_as slots i (suc k) (x ∷ xs) (y ∷ ys) p same e = from_as slots (suc i) k xs ys p (tail_same same) e

-- a sphere that one of them shows is alike to the one that the other shows
pub shown-alike : (w v : World) (i : ℕ) (p : Sphere) → AreAlike w v → slice_get (shown_of w).spheres i ≡ Some p → (q : Sphere) × (slice_get (shown_of v).spheres i ≡ Some q) × (forgotten p ≡ forgotten q)
shown-alike w v i p same e =
    let there : slice_get (shown_from v.slots 0 w.spheres) i ≡ Some p = subst (λ (slots : List (Option Flight)). slice_get (shown_from slots 0 w.spheres) i ≡ Some p) (ap (λ (u : World). u.slots) same) e in
    from_as v.slots 0 i w.spheres v.spheres p (ap (λ (u : World). u.spheres) same) there
