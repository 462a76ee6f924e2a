-- An epoch begins in one sphere alone.
use Rattle.std.proofs.Common.{◌≡◌, ◌≢◌, ℕ, ◌<◌, ◌≤◌, ◌⊎◌, inl, inr, Bool, true, false, nat_eq, List, length, map, Option, Some, None, refl, sym, ap, ◌∙◌, subst, arith, get_or, set}
use Rattle.std.specs.Prelude.{slice_get}
use Rattle.std.proofs.lemmas.Bool.{cases_Bool, eqb-true, true≢false, eq-eqb}
use Rattle.std.proofs.lemmas.List.{get_or-set_same, get_or-set_other, set-get_or}
use Rattle.std.proofs.lemmas.Option.{slice_get_within}
use Rattle.std.proofs.Math.Seq.{map-set_same}
use Rattle.spec_isa.specs.Words.{lays}
use Rattle.spec_play.specs.Progress.{position}
use Rattle.spec_play.specs.Epochs.{Epochs}
use Rattle.spec_play.specs.Epochs as epochs
use Rattle.spec_protocol.specs.declared.event.Event.{Event}
use Rattle.spec_sphere.specs.sphere.Spheres.{Recording, Role, Plain, Record, Replay, Sphere, no_sphere}
use Rattle.spec_protocol.specs.machine.World.{World, sphere_at}
use Rattle.spec_engine.specs.Flying.{flying}
use Rattle.spec_sphere.specs.sphere.Setups.{EpochSetup, RecordSetup, SphereSetup}
use Rattle.spec_protocol.specs.machine.Machine.{Setup}
use Rattle.spec_protocol.specs.machine.Epochs.{begun_at, epochs_begun}
use Rattle.spec_sphere.specs.sphere.Epochs.{begun_if, begun_in, epoch_begun}
use Rattle.spec_protocol.specs.promises.Promises.{after}
use Rattle.spec_protocol.specs.promises.Sound.{IsWithinLimits}
use Rattle.spec_sphere.specs.promises.Alike.{forgotten}
use Rattle.spec_protocol.specs.promises.Alike.{all_forgotten, AreAlike}
use Rattle.spec_protocol.specs.promises.Kept.{IsKept, WillKeep, Shows, NoneIsDue}
use Rattle.spec_sphere.specs.promises.Kept.{has_due, is_due_in}
use Rattle.spec_protocol.proofs.Sound.Schedules.{setup-within}
use Rattle.spec_protocol.proofs.Invariants.Schedules.{sizes_kept}
use Rattle.spec_protocol.proofs.Alike.Good.{sphere-alike, spheres-alike}
use Rattle.spec_protocol.proofs.Kept.Worlds.{begun-at, recordings_kept}

-- ---- the sphere

abbrev begun_sphere : (i : ℕ) → World → Sphere
begun_sphere i w = epoch_begun (lays (sphere_at w i).memory (flying i w.slots)) (sphere_at w i)

-- the others stay as they are
pub begun-others : (w : World) (i j : ℕ) → j ≢ i → sphere_at (begun_at i w) j ≡ sphere_at w j
begun-others w i j other = get_or-set_other w.spheres i j (begun_sphere i w) no_sphere other

begun_here : (w : World) (i : ℕ) → i < length w.spheres → sphere_at (begun_at i w) i ≡ sphere_at (epochs_begun w) i
begun_here w i inside = get_or-set_same w.spheres i (begun_sphere i w) no_sphere inside ∙ sym (begun-at w i)

-- ---- if none is due

still_if : (log : _) (o : Option Epochs) (m : List ℕ) (p : Sphere) → is_due_in (Record (record { log = log; epochs = o })) (position p.progress) ≡ false → begun_if log o m p ≡ p
still_if log None m p none = refl
still_if log (Some x) m p none = rw none refl

still_in : (r : Role) (m : List ℕ) (p : Sphere) → is_due_in r (position p.progress) ≡ false → begun_in r m p ≡ p
still_in Plain m p none = refl
still_in (Record recording) m p none = still_if recording.log recording.epochs m p none
still_in (Replay b) m p none = refl

still_sphere : (m : List ℕ) (p : Sphere) → has_due p ≡ false → epoch_begun m p ≡ p
unfolding epoch_begun
still_sphere m p none = still_in p.role m p none

-- then nothing changes
pub begun-same : (w : World) (i : ℕ) → has_due (sphere_at w i) ≡ false → begun_at i w ≡ w
begun-same w i none =
    let p = sphere_at w i in
    (λ j. record w { spheres = (ap (λ (q : Sphere). set w.spheres i q) (still_sphere (lays p.memory (flying i w.slots)) p none) ∙ set-get_or w.spheres i no_sphere) j })

-- ---- the world

module _ (s : Setup) (limits : IsWithinLimits s) (es : List Event) (w : World) (shows : Shows s es w) where
  all_begun : Shows s es (epochs_begun w)
  all_begun = (recordings_kept s limits).begun es w shows

  -- it is alike
  pub begun-one-alike : (i : ℕ) → AreAlike (begun_at i w) w
  begun-one-alike i =
      let same : forgotten (begun_sphere i w) ≡ forgotten (sphere_at w i) =
      ap forgotten (sym (begun-at w i)) ∙ sphere-alike (epochs_begun w) w i (all_begun.alike ∙ sym shows.alike)
      in
      (λ j. record w { spheres = map-set_same forgotten w.spheres i (begun_sphere i w) no_sphere same j })

  many : length w.spheres ≡ length s.spheres
  many =
      let a = spheres-alike w (after s es) shows.alike in
      let b = (sizes_kept s es (setup-within s limits)).spheres in
      omega (arith, a, b)

  kept_by : (b : Bool) (i k : ℕ) (image : SphereSetup) (asked : RecordSetup) (x : EpochSetup) → nat_eq k i ≡ b → WillKeep s k image asked x → IsKept s (after s es).points k asked x (sphere_at (begun_at i w) k)
  kept_by true i k image asked x is will =
      let same : k ≡ i = eqb-true k i is in
      let inside : k < length w.spheres = (let n = slice_get_within s.spheres k image will.there in let m = many in omega (arith, n, m)) in
      subst (λ (n : ℕ). IsKept s (after s es).points k asked x (sphere_at (begun_at n w) k)) same
      (subst (IsKept s (after s es).points k asked x) (sym (begun_here w k inside)) (all_begun.kept k image asked x will))
  kept_by false i k image asked x is will =
      subst (IsKept s (after s es).points k asked x) (sym (begun-others w i k (λ e. true≢false (sym (eq-eqb k i e) ∙ is)))) (shows.kept k image asked x will)

  -- it shows the same events
  pub begun-one-shows : (i : ℕ) → Shows s es (begun_at i w)
  begun-one-shows i =
      record {
        alike = begun-one-alike i ∙ shows.alike;
        kept = λ k image asked x will. kept_by (nat_eq k i) i k image asked x refl will;
      }

  -- and then none is due there
  pub begun-one-ready : (i : ℕ) → i < length w.spheres → has_due (sphere_at (begun_at i w) i) ≡ false
  begun-one-ready i inside = ap has_due (begun_here w i inside) ∙ (recordings_kept s limits).ready es w shows i
