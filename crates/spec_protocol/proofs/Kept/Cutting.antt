-- The points up to a number of commits of a sphere, and those after it, done one at a time.
use Rattle.std.proofs.Common.{◌≡◌, ◌≢◌, ℕ, suc, ◌+◌, inl, inr, Bool, true, false, cond, List, [], ◌∷◌, ◌++◌, length, refl, sym, ap, ◌∙◌, arith}
use Rattle.std.specs.Prelude.{slice_get}
use Rattle.std.proofs.lemmas.Bool.{true≢false, cases_Bool, eq-eqb}
use Rattle.dl_entry.specs.declared.Point.{Point}
use Rattle.spec_protocol.specs.machine.Serial.{SerialState, do_point, do_points, CanDoAll}
use Rattle.spec_sphere.specs.sphere.Logged.{Supplied, actors_of, is_of}
use Rattle.spec_protocol.specs.machine.Logged.{supplied}
use Rattle.spec_sphere.specs.sphere.Kept.{is_commit_of}
use Rattle.spec_protocol.proofs.Invariants.Preserved.{sphere_of_point}
use Rattle.spec_sphere.proofs.Points.OneMore.{points_so}
use Rattle.spec_protocol.proofs.Points.OneByOne.{supplied_at, point-away, of-sphere, one-more}
use Rattle.spec_sphere.proofs.Kept.Cutting.{commits_among, own_commit, other_commit, actors_first, one_counted}

-- points done after others
pub do-append : (x : SerialState) (ps qs : List Point) → do_points x (ps ++ qs) ≡ do_points (do_points x ps) qs
do-append x [] qs = refl
do-append x (p ∷ ps) qs = do-append (do_point x p) ps qs

-- of points that can be done the first can, and then the others
pub can-split : (x : SerialState) (ps qs : List Point) → CanDoAll x (ps ++ qs) → CanDoAll x ps × CanDoAll (do_points x ps) qs
can-split x [] qs can = (tt, can)
can-split x (p ∷ ps) qs can = let c = can-split (do_point x p) ps qs can.1 in ((can.0, c.0), c.1)

-- what is told of points done after others
pub supplied-append : (i : ℕ) (x : SerialState) (ps qs : List Point) → supplied i x (ps ++ qs) ≡ supplied i x ps ++ supplied i (do_points x ps) qs
supplied-append i x [] qs = refl
supplied-append i x (p ∷ ps) qs =
    let y = do_point x p in
    elim (cases_Bool (is_of i p)) [
      | inl own ↦ one-more i x p (ps ++ qs) true own ∙ ap (λ (cs : List Supplied). supplied_at x p ∷ cs) (supplied-append i y ps qs)
          ∙ ap (λ (cs : List Supplied). cs ++ supplied i (do_points y ps) qs) (sym (one-more i x p ps true own))
      | inr other ↦ one-more i x p (ps ++ qs) false other ∙ supplied-append i y ps qs
          ∙ ap (λ (cs : List Supplied). cs ++ supplied i (do_points y ps) qs) (sym (one-more i x p ps false other))
    ]

-- the commits that are told are those of the sphere
pub told-commits : (i : ℕ) (x : SerialState) (ps : List Point) → length (actors_of (points_so (supplied i x ps))) ≡ commits_among i ps
told-commits i x [] = refl
told-commits i x (p ∷ ps) =
    let y = do_point x p in
    elim (cases_Bool (is_of i p)) [
      | inl own ↦ ap (λ (cs : List Supplied). length (actors_of (points_so cs))) (one-more i x p ps true own)
          ∙ actors_first p (points_so (supplied i y ps)) ∙ (λ j. own_commit i p own j + told-commits i y ps j) ∙ one_counted (is_commit_of i p) (commits_among i ps)
      | inr other ↦ ap (λ (cs : List Supplied). length (actors_of (points_so cs))) (one-more i x p ps false other)
          ∙ told-commits i y ps ∙ sym (ap (λ (b : Bool). cond b (suc (commits_among i ps)) (commits_among i ps)) (other_commit i p other))
    ]

-- if none of the points is of the sphere, it stays as it is
pub none-told : (i : ℕ) (x : SerialState) (ps : List Point) → supplied i x ps ≡ [] → slice_get (do_points x ps).spheres i ≡ slice_get x.spheres i
none-told i x [] none = refl
none-told i x (p ∷ ps) none =
    let y = do_point x p in
    elim (cases_Bool (is_of i p)) [
      | inl own ↦ absurd (let e = ap (λ (cs : List Supplied). length cs) (sym (one-more i x p ps true own) ∙ none) in omega (arith, e))
      | inr other ↦ (
          let ne : i ≢ sphere_of_point p = (λ e. true≢false (sym (eq-eqb (sphere_of_point p) i (sym e)) ∙ sym (of-sphere i p) ∙ other)) in
          none-told i y ps (sym (one-more i x p ps false other) ∙ none) ∙ point-away x p i ne
          )
    ]
