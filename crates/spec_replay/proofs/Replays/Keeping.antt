-- What each move keeps of a sphere, every schedule keeps.
use Rattle.std.proofs.Common.{◌≡◌, ℕ, inl, inr, List, [], ◌∷◌, Option, Some, sym, ap, ◌∙◌, subst}
use Rattle.std.specs.Prelude.{slice_get}
use Rattle.std.proofs.lemmas.Bool.{cases_eq}
use Rattle.spec_protocol.specs.declared.event.Event.{Event}
use Rattle.spec_sphere.specs.sphere.Spheres.{Sphere}
use Rattle.spec_protocol.specs.machine.World.{Numbers, MoveKind, Move}
use Rattle.spec_sphere.specs.sphere.Setups.{SphereSetup, sphere_of}
use Rattle.spec_protocol.specs.machine.Machine.{Setup, moves, world_of}
use Rattle.spec_protocol.specs.machine.Serial.{SerialState, serial_start}
use Rattle.spec_protocol.specs.machine.Shown.{shown_of}
use Rattle.spec_protocol.specs.machine.Moves.{do_by_kind, do_at, do_move, do_moves, FitsWhat, FitsAt, Fits, FitAll}
use Rattle.spec_protocol.specs.promises.Promises.{IsSetup, after}
use Rattle.spec_protocol.proofs.Moves.Elsewhere.{at-away}
use Rattle.spec_protocol.proofs.Invariants.Schedules.{start-sphere, moves_are}

-- the sphere i is so
pub record Stands (P : Sphere → Type 0) (x : SerialState) (i : ℕ) : Type 0 where
  pub sphere : Sphere
  pub there : slice_get x.spheres i ≡ Some sphere
  pub is : P sphere

-- each move of a sphere that is so leaves it so
abbrev pub Keeps : (Sphere → Type 0) → Numbers → Type 0
Keeps P z =
    (x : SerialState) (i : ℕ) (p : Sphere) → slice_get x.spheres i ≡ Some p → P p
    → (moment : ℕ) (what : MoveKind) → FitsWhat z x.devices p what → Stands P (do_by_kind z x moment i p what) i

module _ (P : Sphere → Type 0) (z : Numbers) (keeps : Keeps P z) where
  move_stands : (x : SerialState) (m : Move) (i : ℕ) → Stands P x i → Fits z x m → Stands P (do_move z x m) i
  unfolding do_move
  move_stands x m i a fits =
      elim (cases_eq i m.sphere) [
        | inl e ↦ (
            let there : slice_get x.spheres m.sphere ≡ Some a.sphere = ap (slice_get x.spheres) (sym e) ∙ a.there in
            subst (λ (o : Option Sphere). Stands P (do_at z x m o) i) (sym there)
            (subst (λ (n : ℕ). Stands P (do_by_kind z x m.moment m.sphere a.sphere m.what) n) (sym e)
            (keeps x m.sphere a.sphere there a.is m.moment m.what (subst (FitsAt z x.devices m) there fits)))
            )
        | inr ne ↦ record { sphere = a.sphere; there = at-away z x m i (slice_get x.spheres m.sphere) ne ∙ a.there; is = a.is }
      ]

  moves_stand : (x : SerialState) (ms : List Move) (i : ℕ) → Stands P x i → FitAll z x ms → Stands P (do_moves z x ms) i
  moves_stand x [] i a fits = a
  moves_stand x (m ∷ ms) i a fits = moves_stand (do_move z x m) ms i (move_stands x m i a fits.0) fits.1

-- a sphere that is so at its start is so after every schedule
pub after-stands : (P : Sphere → Type 0) (image : SphereSetup) (s : Setup) (es : List Event) (i : ℕ) (p : Sphere) → IsSetup s → slice_get s.spheres i ≡ Some image → Keeps P s.numbers → P (sphere_of s.numbers.s image)
    → slice_get (shown_of (after s es)).spheres i ≡ Some p → P p
after-stands P image s es i p setup there keeps start shown =
    let m = moves_are s es setup in
    let z : ℕ = s.numbers.s in
    let first : Stands P (serial_start s) i = record { sphere = sphere_of z image; there = start-sphere z s.spheres i image there; is = start } in
    let last : Stands P (do_moves s.numbers (serial_start s) (moves (world_of s) es)) i = moves_stand P s.numbers keeps (serial_start s) (moves (world_of s) es) i first m.possible in
    let same : last.sphere ≡ p = (let h : Some last.sphere ≡ Some p = sym last.there ∙ ap (λ (x : SerialState). slice_get x.spheres i) (sym m.same) ∙ shown in cc) in
    subst P same last.is
