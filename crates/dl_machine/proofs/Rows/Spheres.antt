-- The row of spheres is seen as the spheres in it, and a change of one of them as a change of that one alone.
use Rattle.std.proofs.Common.{◌≡◌, ℕ, ◌<◌, ◌≤◌, max, List, length, get_or, map, slice_set, sym, ap, ◌∙◌, subst, arith}
use Rattle.std.proofs.lemmas.List.{length-set, map-set, get_or-map, get_or-set_same}
use Rattle.std.proofs.lemmas.Grind.{common_steps}
use Rattle.std.proofs.lemmas.List.Elements.{All-get_or, All-set}
use Rattle.spec_sphere.specs.sphere.Spheres.{Sphere, no_sphere}
use Rattle.dl_sphere.specs.Setups.{standard_in}
use Rattle.dl_sphere.specs.SizedSpheres.{SizedSphere}
use Rattle.dl_machine.specs.Rows.{AreSpheres, IsOfStandard, Spheres, sphere_in, nth_sphere, with_nth}

-- a row of spheres, seen as the plan's standard size, the greatest one, and the spheres
abbrev pub spheres_of : (s most : ℕ) → List SizedSphere → Spheres
spheres_of s most row = record { s = s; most = most; spheres = map sphere_in row }

same_sized : (p : SizedSphere) (s : ℕ) (q : Sphere) → p.s ≡ s → p.sphere ≡ q → p ≡ record { s = s; sphere = q }
same_sized p s q e f = λ i. record { s = e i; sphere = f i }

-- a sphere of the row, as callers see it
sized_at : (s most : ℕ) (row : List SizedSphere) (i : ℕ) (p : SizedSphere) (r : Spheres) → AreSpheres s most row → spheres_of s most row ≡ r → i < length row → p ≡ get_or row i p → p ≡ record { s = r.s; sphere = nth_sphere i r }
sized_at s most row i p r are view within is =
    let a : IsOfStandard s most p = subst (λ (q : SizedSphere). IsOfStandard s most q) (sym is) (All-get_or (IsOfStandard s most) row i p within are.each) in
    let h : p.sphere ≡ get_or (map sphere_in row) i no_sphere = ap sphere_in is ∙ sym (get_or-map sphere_in row i p no_sphere within) in
    subst (λ (v : Spheres). p ≡ record { s = v.s; sphere = nth_sphere i v }) view (same_sized p s _ a.standard h)

nth_left : (s most : ℕ) (row : List SizedSphere) (i : ℕ) (d : SizedSphere) → i < length row → nth_sphere i (spheres_of s most (slice_set row i d)) ≡ d.sphere
nth_left s most row i d within =
    let n : length (map sphere_in row) ≡ length row = grind (arith, common_steps) in
    let inside : i < length (map sphere_in row) = omega arith in
    ap (λ (xs : List Sphere). get_or xs i no_sphere) (map-set sphere_in row i d) ∙ get_or-set_same (map sphere_in row) i d.sphere no_sphere inside

-- where one sphere has changed, the row is seen with that one changed
pub spheres_left : (s most : ℕ) (row : List SizedSphere) (i : ℕ) (d : SizedSphere) (r : Spheres) → spheres_of s most row ≡ r → spheres_of s most (slice_set row i d) ≡ with_nth i d.sphere r
spheres_left s most row i d r view =
    ap (λ (xs : List Sphere). record { s = s; most = most; spheres = xs }) (map-set sphere_in row i d) ∙ ap (with_nth i d.sphere) view

-- where one sphere has changed, the row is seen with no other changed
pub others_left : (s most : ℕ) (row : List SizedSphere) (i : ℕ) (d : SizedSphere) (r : Spheres) → spheres_of s most row ≡ r → i < length row → let v = spheres_of s most (slice_set row i d) in v ≡ with_nth i (nth_sphere i v) r
others_left s most row i d r view within =
    spheres_left s most row i d r view ∙ ap (λ (p : Sphere). with_nth i p r) (sym (nth_left s most row i d within))

-- what is said of a sphere and what it has become is said of the row
pub said_of_row : (P : SizedSphere → Sphere → Type 0) (s most : ℕ) (row : List SizedSphere) (i : ℕ) (p d : SizedSphere) (r : Spheres) → AreSpheres s most row → spheres_of s most row ≡ r → i < length row → p ≡ get_or row i p → P p d.sphere
    → P (record { s = r.s; sphere = nth_sphere i r }) (nth_sphere i (spheres_of s most (slice_set row i d)))
said_of_row P s most row i p d r are view within is said =
    subst (λ (q : Sphere). P (record { s = r.s; sphere = nth_sphere i r }) q) (sym (nth_left s most row i d within))
    (subst (λ (o : SizedSphere). P o d.sphere) (sized_at s most row i p r are view within is) said)

-- no sphere's standard size is greater than the greatest, which is 1 at least
pub most_at : (s most : ℕ) (row : List SizedSphere) (i : ℕ) (p : SizedSphere) (r : Spheres) → AreSpheres s most row → spheres_of s most row ≡ r → i < length row → p ≡ get_or row i p → max 1 (standard_in r.s (nth_sphere i r).role) ≤ r.most
most_at s most row i p r are view within is =
    let a : IsOfStandard s most p = subst (λ (q : SizedSphere). IsOfStandard s most q) (sym is) (All-get_or (IsOfStandard s most) row i p within are.each) in
    let here : standard_in r.s (nth_sphere i r).role ≤ most = subst (λ (q : SizedSphere). standard_in q.s q.sphere.role ≤ most) (sized_at s most row i p r are view within is) a.within in
    let same : most ≡ r.most = ap (λ (v : Spheres). v.most) view in
    omega (arith, here, same, are.size.0)

-- a sphere that has become another of the same sizes leaves the row as it is
pub spheres_set : (s most : ℕ) (row : List SizedSphere) (i : ℕ) (p d : SizedSphere) → AreSpheres s most row → i < length row → p ≡ get_or row i p → d.s ≡ p.s → standard_in d.s d.sphere.role ≡ standard_in p.s p.sphere.role → AreSpheres s most (slice_set row i d)
spheres_set s most row i p d are within is same size =
    let a : IsOfStandard s most p = subst (λ (q : SizedSphere). IsOfStandard s most q) (sym is) (All-get_or (IsOfStandard s most) row i p within are.each) in
    let n : length (slice_set row i d) ≡ length row = length-set row i d in
    record {
      size = are.size;
      some_sphere = omega (arith, are.some_sphere, n);
      most_spheres = omega (arith, are.most_spheres, n);
      each = All-set (IsOfStandard s most) row i d (record { standard = same ∙ a.standard; within = omega (arith, size, a.within) }) are.each;
    }

-- what stands at i of the row is the sphere that is seen there
pub sized_is : (s most : ℕ) (row : List SizedSphere) (i : ℕ) (p : SizedSphere) (r : Spheres) → AreSpheres s most row → spheres_of s most row ≡ r → i < length row → p ≡ get_or row i p → p.sphere ≡ nth_sphere i r
sized_is s most row i p r are view within is = ap sphere_in (sized_at s most row i p r are view within is)

-- what is said of a sphere by its number is said of it
pub row_says : (P : SizedSphere → Type 0) (s most : ℕ) (row : List SizedSphere) (i : ℕ) (p : SizedSphere) (r : Spheres) → AreSpheres s most row → spheres_of s most row ≡ r → i < length row → p ≡ get_or row i p → P (record { s = r.s; sphere = nth_sphere i r }) → P p
row_says P s most row i p r are view within is said = subst P (sym (sized_at s most row i p r are view within is)) said
