-- The log that a recording keeps is that of its points.
use Rattle.std.proofs.Common.{◌≡◌, ℕ, zero, suc, ◌<◌, inl, inr, List, [], ◌∷◌, length, Option, Some, refl, sym, ap, ◌∙◌, subst, arith}
use Rattle.std.specs.Prelude.{slice_get, option_map}
use Rattle.std.proofs.lemmas.Bool.{true≢false, cases_Bool}
use Rattle.std.proofs.lemmas.Option.{slice_get_within, slice_get-map}
use Rattle.spec_isa.specs.Threads.{started}
use Rattle.spec_log.specs.declared.ModeName.{ModeName}
use Rattle.spec_log.specs.declared.LogParts.{LogParts}
use Rattle.spec_play.specs.Verdicts.{interrupt_at}
use Rattle.spec_play.specs.Recording.{new_log}
use Rattle.spec_play.specs.Epochs.{Epochs}
use Rattle.spec_sphere.specs.sphere.Spheres.{Recording, Record, Sphere, replays}
use Rattle.spec_protocol.specs.machine.World.{World, sphere_at}
use Rattle.spec_protocol.specs.declared.event.Event.{Event}
use Rattle.spec_sphere.specs.sphere.Setups.{RecordSetup, RoleSetup, IsRecorded, new_epochs, new_recording, SphereSetup, live_sphere, sphere_as, sphere_of}
use Rattle.spec_protocol.specs.machine.Machine.{Setup}
use Rattle.spec_protocol.specs.machine.Serial.{serial_start, do_points}
use Rattle.spec_protocol.specs.machine.Shown.{shown, shown_of}
use Rattle.spec_protocol.specs.machine.Logged.{supplied}
use Rattle.spec_sphere.specs.sphere.Logged.{logged}
use Rattle.spec_protocol.specs.promises.Promises.{IsSetup, after}
use Rattle.spec_protocol.specs.promises.LogsOfPoints.{LogsAreOfPoints}
use Rattle.spec_protocol.specs.promises.Logs.{LogsAreFresh}
use Rattle.spec_sphere.specs.promises.Sound.{AreFresh, commits_in}
use Rattle.spec_protocol.proofs.Invariants.Preserved.{shown-get}
use Rattle.spec_sphere.proofs.Logs.Fresh.{fresh-none}
use Rattle.spec_protocol.proofs.Invariants.Schedules.{sizes_kept}
use Rattle.spec_protocol.proofs.Points.Serial.{serial-after}
use Rattle.spec_sphere.proofs.Points.KeptLogs.{Keeping, whole_log, log_by, new-least, keeping, Keeps, keeps-by-points}
use Rattle.spec_protocol.proofs.Points.OneByOne.{HoldsIn, points-kept}

-- ---- the start

no_points : (version : ℕ) (mode : ModeName) (s : ℕ) → new_log version mode s ≡ logged version mode s []
no_points version ModeName.OrderSize s = refl
no_points version ModeName.OrderOnly s = refl
no_points version ModeName.Picolog s = refl

no_commits : (entry k : ℕ) → 0 ≡ commits_in (started entry ∷ []) k
no_commits entry zero = refl
no_commits entry (suc k) = refl

start_keeps : (version : ℕ) (mode : ModeName) (s : ℕ) (x : Option Epochs) (image : SphereSetup) → let how = whole_log version mode s x in Keeps how [] (live_sphere image (Record (keeping how (new_log version mode s))))
start_keeps version mode s x image =
    let how = whole_log version mode s x in
    record {
      role = ap (λ (log : LogParts). Record (keeping how log)) (no_points version mode s);
      commits = λ k. let h = no_commits image.entry k in omega arith;
      place = refl;
      fresh = subst (AreFresh (started image.entry ∷ [])) (ap (λ (l : LogParts). l.interrupts) (no_points version mode s)) (fresh-none (started image.entry ∷ []));
      few = new-least version;
    }

-- ---- all

-- how a sphere's log is kept that is set up so
abbrev pub how_kept : Setup → RecordSetup → Keeping
how_kept s asked = whole_log asked.version asked.mode s.numbers.s (new_epochs asked.epochs)

-- before the first point its log has nothing
pub start-kept : (s : Setup) (i : ℕ) (image : SphereSetup) (asked : RecordSetup) → slice_get s.spheres i ≡ Some image → image.role ≡ IsRecorded asked → HoldsIn (Keeps (how_kept s asked)) i [] (serial_start s)
start-kept s i image asked there role =
    let z : ℕ = s.numbers.s in
    record {
      sphere = live_sphere image (Record (new_recording asked z));
      there = slice_get-map (sphere_of z) s.spheres i ∙ ap (option_map (sphere_of z)) there ∙ ap (λ (r : RoleSetup). Some (sphere_as z image r)) role;
      holds = start_keeps asked.version asked.mode z (new_epochs asked.epochs) image;
    }

-- the sphere, with its current memory, keeps the log of its points
pub log_kept : (s : Setup) (es : List Event) (i : ℕ) (image : SphereSetup) (asked : RecordSetup) → IsSetup s → slice_get s.spheres i ≡ Some image → image.role ≡ IsRecorded asked
    → let w = after s es in Keeps (how_kept s asked) (supplied i (serial_start s) w.points) (shown w.slots i (sphere_at w i))
unfolding shown
log_kept s es i image asked is there role =
    let w : World = after s es in
    let z : ℕ = s.numbers.s in
    let cs = supplied i (serial_start s) w.points in
    let so = serial-after s es is in
    let k : HoldsIn (Keeps (how_kept s asked)) i cs (do_points (serial_start s) w.points) =
    points-kept (Keeps (how_kept s asked)) (keeps-by-points (how_kept s asked)) i [] (serial_start s) w.points
    (start-kept s i image asked there role)
    so.possible
    in
    let p : Sphere = shown w.slots i (sphere_at w i) in
    let l : i < length w.spheres = (let a = slice_get_within s.spheres i image there in let b = (sizes_kept s es is).spheres in omega arith) in
    let e : slice_get (shown_of w).spheres i ≡ Some p = shown-get w.slots i w.spheres l in
    elim (cases_Bool (replays p.role)) [
      | inl replay ↦ (
          let q = so.agrees.replayed i p e replay in
          let same : k.sphere ≡ q.0 = (let h : Some k.sphere ≡ Some q.0 = sym k.there ∙ q.1 in cc) in
          absurd (true≢false (sym q.2 ∙ ap (λ (r : Sphere). replays r.role) (sym same) ∙ ap replays k.holds.role))
          )
      | inr live ↦ (
          let same : k.sphere ≡ p = (let h : Some k.sphere ≡ Some p = sym k.there ∙ so.agrees.live i p e live in cc) in
          subst (Keeps (how_kept s asked) cs) same k.holds
          )
    ]

-- the log of a recorded sphere is the one that its points tell
pub logs_are : LogsAreOfPoints
unfolding shown
logs_are s es i image asked will = (log_kept s es i image asked will.setup will.there will.role).role

-- a kept log has nothing of what comes next
pub logs_are_fresh : LogsAreFresh
unfolding shown
logs_are_fresh s es i image asked will recording kept =
    let how = how_kept s asked in
    let cs = supplied i (serial_start s) (after s es).points in
    let k = log_kept s es i image asked will.setup will.there will.role in
    let same : log_by how cs ≡ recording.log = (let h : Record (keeping how (log_by how cs)) ≡ Record recording = sym k.role ∙ kept in ap (λ (r : Recording). r.log) (let e : keeping how (log_by how cs) ≡ recording = cc in e)) in
    record {
      count = ap (λ (l : LogParts). l.count) (sym same) ∙ (let h = k.place in omega arith);
      later = λ j n t e l. ap (λ (l : LogParts). interrupt_at l.interrupts j n) (sym same) ∙ k.fresh.later j n t e l;
      unmasked = λ j t e mask. ap (λ (l : LogParts). interrupt_at l.interrupts j t.commits) (sym same) ∙ k.fresh.unmasked j t e mask;
    }
