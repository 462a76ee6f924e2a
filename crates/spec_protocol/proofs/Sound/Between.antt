-- In every sphere of a world each thread is between two commits.
use Rattle.std.proofs.Common.{◌≡◌, ℕ, List, [], length, Some, refl, sym, ap, ◌∙◌, subst}
use Rattle.std.specs.Prelude.{slice_get}
use Rattle.std.proofs.lemmas.Option.{get_or_from_slice_get}
use Rattle.dl_entry.specs.declared.Point.{Point}
use Rattle.spec_protocol.specs.machine.Logged.{sphere_in, supplied}
use Rattle.spec_sphere.specs.sphere.Setups.{RecordSetup, RoleSetup, IsRecorded, SphereSetup, live_sphere, new_recording, sphere_as}
use Rattle.spec_protocol.specs.machine.Machine.{Setup}
use Rattle.spec_protocol.specs.machine.Serial.{serial_start, do_points, CanDoAll}
use Rattle.spec_sphere.specs.sphere.Spheres.{Record, no_sphere}
use Rattle.spec_protocol.proofs.Invariants.Schedules.{start-sphere}
use Rattle.spec_protocol.proofs.Points.OneByOne.{HoldsIn, points-kept}
use Rattle.spec_sphere.proofs.Sound.Between.{KeepsResting, resting-by_points, start-rest}

-- so it is between two points
pub sphere-rests : (s : Setup) (i : ℕ) (image : SphereSetup) (asked : RecordSetup) → slice_get s.spheres i ≡ Some image → image.role ≡ IsRecorded asked
    → (ps : List Point) → CanDoAll (serial_start s) ps → KeepsResting (length image.memory) (supplied i (serial_start s) ps) (sphere_in (do_points (serial_start s) ps) i)
sphere-rests s i image asked there role ps can =
    let z = s.numbers.s in
    let K = KeepsResting (length image.memory) in
    let start : HoldsIn K i [] (serial_start s) =
    record {
      sphere = live_sphere image (Record (new_recording asked z));
      there = start-sphere z s.spheres i image there ∙ ap (λ (r : RoleSetup). Some (sphere_as z image r)) role;
      holds = record { recorded = (new_recording asked z, refl); threads = start-rest image; last = tt; memory = refl };
    } in
    let k : HoldsIn K i (supplied i (serial_start s) ps) (do_points (serial_start s) ps) = points-kept K (resting-by_points (length image.memory)) i [] (serial_start s) ps start can in
    subst (K (supplied i (serial_start s) ps)) (sym (get_or_from_slice_get (do_points (serial_start s) ps).spheres i k.sphere no_sphere k.there)) k.holds
