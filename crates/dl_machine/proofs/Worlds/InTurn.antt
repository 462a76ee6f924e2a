-- Epochs that begin in one sphere after the other have at last begun in all of them.
use Rattle.std.proofs.Common.{◌≡◌, ℕ, zero, suc, ◌<◌, ◌≤◌, List, [], ◌∷◌, length, Option, inl, inr, refl, sym, ap, ◌∙◌, subst, arith}
use Rattle.std.proofs.lemmas.Bool.{cases_eq}
use Rattle.std.proofs.lemmas.List.{ext_get_or, get_or-set_same, length-set}
use Rattle.spec_engine.specs.Flights.{Flight}
use Rattle.spec_engine.specs.Flying.{flying}
use Rattle.spec_isa.specs.Words.{lays}
use Rattle.spec_sphere.specs.sphere.Epochs.{epoch_begun}
use Rattle.spec_sphere.specs.sphere.Spheres.{Sphere, no_sphere}
use Rattle.spec_protocol.specs.machine.Epochs.{begun_from, epochs_begun}
use Rattle.spec_protocol.specs.machine.World.{World, sphere_at}
use Rattle.spec_protocol.proofs.Kept.One.{begun-others}
use Rattle.spec_protocol.proofs.Kept.Worlds.{begun-at}
use Rattle.dl_machine.specs.Begun.{begun_first}

-- ---- what stays

first_slots : (n : ℕ) (w : World) → (begun_first n w).slots ≡ w.slots
first_slots zero w = refl
first_slots (suc n) w = first_slots n w

first_many : (n : ℕ) (w : World) → length (begun_first n w).spheres ≡ length w.spheres
first_many zero w = refl
first_many (suc n) w =
    let p = sphere_at (begun_first n w) n in
    length-set (begun_first n w).spheres n (epoch_begun (lays p.memory (flying n (begun_first n w).slots)) p) ∙ first_many n w

first_rest : (n : ℕ) (w : World) → begun_first n w ≡ record w { spheres = (begun_first n w).spheres }
first_rest zero w = refl
first_rest (suc n) w = ap (λ (u : World). record u { spheres = (begun_first (suc n) w).spheres }) (first_rest n w)

-- a later sphere is as before
first_later : (n j : ℕ) (w : World) → n ≤ j → sphere_at (begun_first n w) j ≡ sphere_at w j
first_later zero j w l = refl
first_later (suc n) j w l = begun-others (begun_first n w) n j (λ e. absurd (omega (arith, l, e))) ∙ first_later n j w (omega (arith, l))

-- ---- what has begun

first_here : (n : ℕ) (w : World) → n < length w.spheres → sphere_at (begun_first (suc n) w) n ≡ sphere_at (epochs_begun w) n
first_here n w l =
    let before = begun_first n w in
    let same : sphere_at before n ≡ sphere_at w n = first_later n n w (omega arith) in
    let many = first_many n w in
    get_or-set_same before.spheres n (epoch_begun (lays (sphere_at before n).memory (flying n before.slots)) (sphere_at before n)) no_sphere (omega (arith, l, many))
    ∙ (λ h. epoch_begun (lays (same h).memory (flying n (first_slots n w h))) (same h))
    ∙ sym (begun-at w n)

first_begun : (n j : ℕ) (w : World) → j < n → j < length w.spheres → sphere_at (begun_first n w) j ≡ sphere_at (epochs_begun w) j
first_begun zero j w l m = absurd (omega (arith, l))
first_begun (suc n) j w l m =
    elim (cases_eq j n) [
      | inl same ↦ subst (λ (k : ℕ). k < length w.spheres → sphere_at (begun_first (suc n) w) k ≡ sphere_at (epochs_begun w) k) (sym same) (first_here n w) m
      | inr other ↦ begun-others (begun_first n w) n j other ∙ first_begun n j w (omega (arith, l, other)) m
    ]

begun_many : (slots : List (Option Flight)) (i : ℕ) (ps : List Sphere) → length (begun_from slots i ps) ≡ length ps
begun_many slots i [] = refl
begun_many slots i (p ∷ ps) = ap suc (begun_many slots (suc i) ps)

-- past the last sphere they have begun in all
pub all_begun : (n : ℕ) (w : World) → length w.spheres ≤ n → begun_first n w ≡ epochs_begun w
unfolding epochs_begun
all_begun n w l =
    let here = (begun_first n w).spheres in
    let many = first_many n w in
    let all = begun_from w.slots 0 w.spheres in
    let each : here ≡ all = ext_get_or no_sphere here all (many ∙ sym (begun_many w.slots 0 w.spheres)) (λ i inside. first_begun n i w (omega (arith, inside, many, l)) (omega (arith, inside, many))) in
    first_rest n w ∙ (λ j. record w { spheres = each j })
