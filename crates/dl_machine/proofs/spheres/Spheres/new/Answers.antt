use Rattle.std.proofs.Common.{rules, ◌≡◌, ◌+◌, ◌<◌, ℕ, max, length, refl, zero, suc, All, get_or, List, [], ◌∷◌, ◌++◌, map, take, sym, ap, subst, ◌∙◌, arith}
use Rattle.std.proofs.lemmas.List.{get_or-map, map-append, take_more}
use Rattle.std.proofs.lemmas.Grind.{common_steps}
use Rattle.std.proofs.lemmas.Simd.{map-map}
use Rattle.spec_sphere.specs.sphere.Spheres.{Sphere}
use Rattle.spec_sphere.specs.sphere.Setups as protocol
use Rattle.spec_sphere.specs.sphere.Setups.{RoleSetup, IsPlain, IsRecorded, IsReplayed, sphere_as, sphere_of}
use Rattle.dl_sphere.specs.Setups.{HasBegun, IsRecordableIf, role_setup, setup_of, standard_asked, standard_in}
use Rattle.dl_machine.specs.Setups.{greatest}
use Rattle.dl_sphere.specs.SizedSpheres.{SizedSphere}
use Rattle.dl_sphere.specs.declared.setup.SphereSetup.{SphereSetup}
use Rattle.spec_sphere.specs.promises.Sound.{IsImage}
use Rattle.dl_machine.specs.Rows.{IsOfStandard, sphere_in}
use Rattle.dl_machine.proofs.spheres.Spheres.new.Goals as goal

pub new-requires-clause-role : goal.new-requires-clause-role
new-requires-clause-role c =
    let setups = c.args.setups.now in
    let i = c.loop-setup.setup-index in
    let item = c.setup-item.result in
    let inside : i < length (map setup_of setups) = grind (arith, common_steps) in
    let same : get_or (map setup_of setups) i (setup_of item) ≡ setup_of item = get_or-map setup_of setups i item (setup_of item) c.loop-setup-test.true ∙ ap setup_of (sym c.setup-item.is) in
    subst (λ (image : protocol.SphereSetup). IsRecordableIf c.args.s image.role) same (c.requires.recorded i (setup_of item) inside)

pub new-requires-clause-begun : goal.new-requires-clause-begun
new-requires-clause-begun c =
    let item = c.setup-item.result in
    subst HasBegun (sym c.setup-item.is) (c.requires.begun c.loop-setup.setup-index item c.loop-setup-test.true)

pub returns-clause-made : goal.returns-clause-made
returns-clause-made c =
    let all : map sphere_in c.loop-setup.row.items ≡ map (λ x. sphere_of c.args.s (setup_of x)) c.args.setups.now = grind (arith, common_steps) in
    let most : c.loop-setup.most ≡ greatest c.args.s c.args.setups.now = grind (arith, common_steps) in
    λ i. record { s = c.args.s; most = most i; spheres = (all ∙ sym (map-map (sphere_of c.args.s) setup_of c.args.setups.now)) i }

all_pushed : {X : Type 0} (P : X → Type 0) (xs : List X) (x : X) → All P xs → P x → All P (xs ++ x ∷ [])
all_pushed P [] x h px zero d l = px
all_pushed P [] x h px (suc k) d l = absurd (omega arith)
all_pushed P (y ∷ ys) x h px zero d l = h zero d (omega arith)
all_pushed P (y ∷ ys) x h px (suc k) d l = all_pushed P ys x (λ j e m. h (suc j) e (omega arith)) px k d (omega arith)

greatest-more : (s : ℕ) (xs : List SphereSetup) (x : SphereSetup) → greatest s (xs ++ x ∷ []) ≡ max (greatest s xs) (standard_asked s (role_setup x.role))
greatest-more s [] x = omega arith
greatest-more s (y ∷ ys) x = omega (arith, greatest-more s ys x)

-- a sphere begins with the standard size that its setup asks for
standard_begun : (s : ℕ) (image : protocol.SphereSetup) (role : RoleSetup) → standard_in s (sphere_as s image role).role ≡ standard_asked s role
standard_begun s image IsPlain = refl
standard_begun s image (IsRecorded asked) = refl
standard_begun s image (IsReplayed asked) = refl

pub loop-setup-preserved : goal.loop-setup-preserved
loop-setup-preserved c =
    let i = c.loop-setup.setup-index in
    let setups = c.args.setups.now in
    let item = c.setup-item.result in
    let f : SphereSetup → Sphere = λ x. sphere_of c.args.s (setup_of x) in
    let inv = c.loop-setup.invariant in
    let x = c.in_ok-sphere.sphere in
    let most = c.max-most.result in
    let greater : most ≡ max c.loop-setup.most c.standard.result = c.max-most.ensures in
    let standard : standard_in x.s x.sphere.role ≡ standard_asked c.args.s (role_setup item.role) =
    ap (λ (y : SizedSphere). standard_in y.s y.sphere.role) c.in_ok-sphere.ensures.made ∙ standard_begun c.args.s (setup_of item) (role_setup item.role)
    in
    let more : take (i + 1) setups ≡ take i setups ++ item ∷ [] = take_more setups i item c.loop-setup-test.true ∙ ap (λ y. take i setups ++ y ∷ []) (sym c.setup-item.is) in
    record {
      spheres =
          ap (λ (xs : List SizedSphere). map sphere_in xs) c.push_reserved.ensures.items
          ∙ map-append sphere_in c.loop-setup.row.items (x ∷ [])
          ∙ ap (λ (ps : List Sphere). ps ++ sphere_in x ∷ []) inv.spheres
          ∙ ap (λ (y : SizedSphere). map f (take i setups) ++ sphere_in y ∷ []) c.in_ok-sphere.ensures.made
          ∙ sym (map-append f (take i setups) (item ∷ []))
          ∙ sym (ap (λ (xs : List SphereSetup). map f xs) more);
      each =
          subst (λ (xs : List SizedSphere). All (IsOfStandard c.args.s most) xs) (sym c.push_reserved.ensures.items)
          (all_pushed (IsOfStandard c.args.s most) c.loop-setup.row.items x
          (λ k d l. let a = inv.each k d l in record { standard = a.standard; within = omega (arith, a.within, greater) })
          (record { standard = ap (λ (y : SizedSphere). y.s) c.in_ok-sphere.ensures.made; within = omega (arith, greater, c.standard.ensures.value) }));
      most =
          greater ∙ (λ k. max (inv.most k) ((c.standard.ensures.value ∙ standard) k))
          ∙ sym (greatest-more c.args.s (take i setups) item) ∙ sym (ap (greatest c.args.s) more);
      size = (omega (arith, greater, inv.size.0, c.standard.ensures.size.0), omega (arith, greater, inv.size.1, c.standard.ensures.size.1));
      images =
          subst (λ (xs : List SphereSetup). All (λ y. IsImage c.args.s (setup_of y)) xs) (sym more)
          (all_pushed (λ y. IsImage c.args.s (setup_of y)) (take i setups) item inv.images c.in_ok-sphere.ensures.image);
      len = search rules;
      room = search rules;
    }
