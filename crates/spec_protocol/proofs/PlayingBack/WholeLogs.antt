-- How the whole log of a recorded sphere stands to the sphere that its points leave.
use Rattle.std.proofs.Common.{◌≡◌, ℕ, ◌<◌, false, List, length, Some, refl, sym, ap, ◌∙◌, subst, arith}
use Rattle.std.specs.Prelude.{slice_get}
use Rattle.std.proofs.lemmas.Option.{get_or_from_slice_get, slice_get_within, same_Some}
use Rattle.spec_protocol.specs.declared.event.Event.{Event}
use Rattle.spec_sphere.specs.sphere.Spheres.{Recording, Role, Record, Sphere, no_sphere, replays}
use Rattle.spec_protocol.specs.machine.World.{Numbers, World, sphere_at}
use Rattle.spec_sphere.specs.sphere.Setups.{new_recording, RecordSetup, RoleSetup, SphereSetup, live_sphere, sphere_as}
use Rattle.spec_protocol.specs.machine.Machine.{Setup, world_of, moves}
use Rattle.spec_protocol.specs.machine.Serial.{SerialState, serial_start, serial}
use Rattle.spec_protocol.specs.machine.Shown.{shown, shown_of}
use Rattle.spec_protocol.specs.machine.Logged.{sphere_in}
use Rattle.spec_protocol.specs.promises.Promises.{WillRecord, after}
use Rattle.spec_protocol.specs.promises.LogsOfPoints.{log_of_points}
use Rattle.spec_protocol.proofs.Invariants.Preserved.{shown-get}
use Rattle.spec_protocol.proofs.Invariants.Schedules.{start-sphere, moves_are, sizes_kept}
use Rattle.spec_sphere.specs.promises.Standing.{Stands}
use Rattle.spec_protocol.proofs.PlayingBack.All.{moves_come}
use Rattle.spec_sphere.proofs.PlayingBack.All.{start-stands}
use Rattle.spec_sphere.proofs.Points.KeptLogs.{keeping}
use Rattle.spec_protocol.proofs.Points.Logs.{how_kept, log_kept}
use Rattle.spec_protocol.proofs.Points.Serial.{commits_are}

-- the sphere that is shown is that of executing the points, and keeps their log
pub record IsShown (s : Setup) (es : List Event) (i : ℕ) (asked : RecordSetup) : Type 0 where
  pub there : slice_get (shown_of (after s es)).spheres i ≡ Some (sphere_in (serial s (after s es).points) i)
  pub role : (sphere_in (serial s (after s es).points) i).role ≡ Record (keeping (how_kept s asked) (log_of_points s es i asked))

-- so it is of a sphere that is recorded
pub shown-so : (s : Setup) (es : List Event) (i : ℕ) (image : SphereSetup) (asked : RecordSetup) → WillRecord s i image asked → IsShown s es i asked
shown-so s es i image asked will =
    let w : World = after s es in
    let p : Sphere = shown w.slots i (sphere_at w i) in
    let k = log_kept s es i image asked will.setup will.there will.role in
    let inside : i < length w.spheres = (let a = slice_get_within s.spheres i image will.there in let b = (sizes_kept s es will.setup).spheres in omega (arith, a, b)) in
    let shows : slice_get (shown_of w).spheres i ≡ Some p = shown-get w.slots i w.spheres inside in
    let live : replays p.role ≡ false = ap replays k.role in
    let same : sphere_in (serial s w.points) i ≡ p = get_or_from_slice_get (serial s w.points).spheres i p no_sphere ((commits_are s es will.setup).spheres i p shows live) in
    record { there = shows ∙ ap Some (sym same); role = ap (λ (q : Sphere). q.role) same ∙ k.role }

same_record : (q r : Recording) → Record q ≡ Record r → q ≡ r
same_record q r e = cc

-- its log stands by it
pub stands-so : (s : Setup) (es : List Event) (i : ℕ) (image : SphereSetup) (asked : RecordSetup) → WillRecord s i image asked → Stands (sphere_in (serial s (after s es).points) i) (log_of_points s es i asked)
stands-so s es i image asked will =
    let z : Numbers = s.numbers in
    let is = will.setup in
    let start : SerialState = serial_start s in
    let begins : Role = Record (new_recording asked z.s) in
    let all = moves_are s es is in
    let c = moves_come z start (moves (world_of s) es) i (live_sphere image begins) (new_recording asked z.s) is.buffer refl
    (start-sphere z.s s.spheres i image will.there ∙ ap (λ (role : RoleSetup). Some (sphere_as z.s image role)) will.role) refl all.possible in
    let a : IsShown s es i asked = shown-so s es i image asked will in
    let p : Sphere = sphere_in (serial s (after s es).points) i in
    let same : c.sphere ≡ p = same_Some c.sphere p (sym c.there ∙ ap (λ (x : SerialState). slice_get x.spheres i) (sym all.same) ∙ a.there) in
    let kept : c.recording ≡ keeping (how_kept s asked) (log_of_points s es i asked) = same_record c.recording _ (sym c.role ∙ ap (λ (x : Sphere). x.role) same ∙ a.role) in
    subst (λ (r : Recording). Stands p r.log) kept
    (subst (λ (x : Sphere). Stands x c.recording.log) same (c.grown.stands (start-stands z.s image begins asked.version asked.mode)))
