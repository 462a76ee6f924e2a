-- How a recorded sphere of a world stands to the same sphere after its points, if the world is alike to one that gives up nothing.
use Rattle.std.proofs.Common.{◌≡◌, ℕ, zero, suc, ◌+◌, ◌<◌, ◌≤◌, Bool, true, false, List, [], ◌∷◌, ◌++◌, length, Option, Some, None, refl, sym, ap, ◌∙◌, subst, arith}
use Rattle.std.specs.Prelude.{slice_get, option_map}
use Rattle.std.proofs.lemmas.Option.{slice_get_within, slice_get-map, same_Some}
use Rattle.dl_entry.specs.declared.Point.{Point}
use Rattle.dl_entry.specs.declared.Request.{Request}
use Rattle.spec_isa.specs.declared.thread.Parts.{Parts}
use Rattle.spec_isa.specs.Runs.{run}
use Rattle.spec_kernel.specs.Devices.{Devices}
use Rattle.spec_kernel.specs.Needs.{need}
use Rattle.spec_kernel.specs.Answers.{taken}
use Rattle.spec_play.specs.Progress.{position}
use Rattle.spec_play.specs.Effects.{chunk_effect}
use Rattle.spec_play.specs.Recording.{noted, interrupt_noted}
use Rattle.spec_protocol.specs.declared.event.Event.{Event}
use Rattle.spec_sphere.specs.sphere.Spheres.{Recording, Record, Sphere, no_sphere, replays}
use Rattle.spec_sphere.specs.sphere.Commits.{serial_noted, dma_log, role_raised, raised}
use Rattle.spec_protocol.specs.machine.World.{World, sphere_at}
use Rattle.spec_sphere.specs.sphere.Setups.{RecordSetup, RoleSetup, IsRecorded, new_recording, SphereSetup, live_sphere, sphere_as, sphere_of}
use Rattle.spec_protocol.specs.machine.Machine.{Setup}
use Rattle.spec_protocol.specs.machine.Serial.{SerialState, serial_start, do_points, serial, CanDoAll}
use Rattle.spec_protocol.specs.machine.Shown.{shown, shown_of}
use Rattle.spec_sphere.specs.sphere.Logged.{Supplied, actors_of}
use Rattle.spec_protocol.specs.machine.Logged.{sphere_in, supplied}
use Rattle.spec_protocol.specs.promises.Promises.{IsSetup, after}
use Rattle.spec_protocol.specs.promises.Invariants.{IsGood}
use Rattle.spec_sphere.specs.promises.Alike.{forgotten}
use Rattle.spec_protocol.specs.promises.Alike.{AreAlike}
use Rattle.spec_protocol.proofs.Invariants.Preserved.{shown-get}
use Rattle.spec_protocol.proofs.Invariants.Schedules.{invariants_hold, sizes_kept}
use Rattle.spec_sphere.proofs.Points.OneMore.{points_so}
use Rattle.spec_protocol.proofs.Points.Serial.{serial-after}
use Rattle.spec_sphere.proofs.Points.Kept.{IsKeptByPoints}
use Rattle.spec_protocol.proofs.Points.OneByOne.{HoldsIn, points-kept}
use Rattle.spec_sphere.proofs.Points.KeptLogs.{Keeps}
use Rattle.spec_protocol.proofs.Points.Logs.{how_kept, log_kept}
use Rattle.spec_protocol.proofs.Alike.Good.{sphere-alike, spheres-alike, good-alike}
use Rattle.spec_sphere.proofs.Kept.Cutting.{commits_among}
use Rattle.spec_protocol.proofs.Kept.Cutting.{told-commits}
use Rattle.spec_sphere.proofs.Alike.Shown.{position-alike}
use Rattle.spec_protocol.proofs.Kept.Showing.{memory-shown}

-- ---- the whole sphere counts from 0

record Begins (cs : List Supplied) (p : Sphere) : Type 0 where
  recorded : (r : Recording) × (p.role ≡ Record r)
  first : p.progress.first ≡ 0

begins-by-points : IsKeptByPoints Begins
unfolding raised
begins-by-points =
    record {
      role = λ cs p h. h.recorded;
      chunk = λ cs moment i k size short p t devices r h role is ran.
          record { recorded = (record r { log = noted (chunk_effect k p.progress.request (run p.memory t size)).commit (run p.memory t size).thread.commits short r.log }, refl); first = h.first };
      serial = λ cs moment i k size short p t devices r h role is empty.
          record { recorded = (record r { log = serial_noted k t (taken (need t p.memory) devices moment) r.log p }, refl); first = h.first };
      dma = λ cs moment i short p request devices r h role. record { recorded = (record r { log = dma_log r.log devices p (Some request) }, refl); first = h.first };
      raise = λ cs moment i k value p t r h role is takes.
          record { recorded = (record r { log = interrupt_noted k t.commits value r.log }, ap (role_raised k t.commits value) role); first = h.first };
    }

start_begins : (s : Setup) (i : ℕ) (image : SphereSetup) (asked : RecordSetup) → slice_get s.spheres i ≡ Some image → image.role ≡ IsRecorded asked → HoldsIn Begins i [] (serial_start s)
start_begins s i image asked there role =
    let z : ℕ = s.numbers.s in
    record {
      sphere = live_sphere image (Record (new_recording asked z));
      there = slice_get-map (sphere_of z) s.spheres i ∙ ap (option_map (sphere_of z)) there ∙ ap (λ (r : RoleSetup). Some (sphere_as z image r)) role;
      holds = record { recorded = (new_recording asked z, refl); first = refl };
    }

-- ---- both

-- sphere i as the world shows it, which may have given up commits, and as it is after its points
pub record Stand (s : Setup) (es : List Event) (w : World) (i : ℕ) (asked : RecordSetup) (kept whole : Sphere) : Type 0 where
  pub good : IsGood w
  pub can : CanDoAll (serial_start s) (after s es).points
  pub there : slice_get (shown_of w).spheres i ≡ Some kept
  pub is : slice_get (serial s (after s es).points).spheres i ≡ Some whole
  pub keeps : Keeps (how_kept s asked) (supplied i (serial_start s) (after s es).points) whole
  pub begins : whole.progress.first ≡ 0
  pub devices : w.devices ≡ (serial s (after s es).points).devices
  pub memory : kept.memory ≡ whole.memory
  pub threads : kept.threads ≡ whole.threads
  pub request : kept.progress.request ≡ whole.progress.request
  pub last : kept.progress.last ≡ whole.progress.last
  pub place : position kept.progress ≡ position whole.progress
  pub progress : kept.progress ≡ (sphere_at w i).progress
  pub parts : kept.threads ≡ (sphere_at w i).threads
  pub role : kept.role ≡ (sphere_at w i).role

-- so it is
pub stands : (s : Setup) (es : List Event) (w : World) (i : ℕ) (image : SphereSetup) (asked : RecordSetup) → IsSetup s → slice_get s.spheres i ≡ Some image → image.role ≡ IsRecorded asked → AreAlike w (after s es)
    → let v = after s es in Stand s es w i asked (shown w.slots i (sphere_at w i)) (shown v.slots i (sphere_at v i))
unfolding shown
stands s es w i image asked is there role same =
    let v : World = after s es in
    let so = serial-after s es is in
    let inside : i < length v.spheres = (let a = slice_get_within s.spheres i image there in let b = (sizes_kept s es is).spheres in omega arith) in
    let within : i < length w.spheres = (let a = spheres-alike w v same in omega arith) in
    let keeps = log_kept s es i image asked is there role in
    let e : slice_get (serial s v.points).spheres i ≡ Some (shown v.slots i (sphere_at v i)) = so.agrees.live i (shown v.slots i (sphere_at v i)) (shown-get v.slots i v.spheres inside) (ap replays keeps.role) in
    let alike = sphere-alike w v i same in
    let begin = points-kept Begins begins-by-points i [] (serial_start s) v.points (start_begins s i image asked there role) so.possible in
    record {
      good = good-alike v w (sym same) (invariants_hold s es is);
      can = so.possible;
      there = shown-get w.slots i w.spheres within;
      is = e;
      keeps = keeps;
      begins = ap (λ (p : Sphere). p.progress.first) (same_Some _ _ (sym e ∙ begin.there)) ∙ begin.holds.first;
      devices = ap (λ (u : World). u.devices) same ∙ so.agrees.devices;
      memory = memory-shown w v i same;
      threads = ap (λ (p : Sphere). p.threads) alike;
      request = ap (λ (p : Sphere). p.progress.request) alike;
      last = ap (λ (p : Sphere). p.progress.last) alike;
      place = position-alike (sphere_at w i) (sphere_at v i) alike;
      progress = refl;
      parts = refl;
      role = refl;
    }
