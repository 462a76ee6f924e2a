-- The interrupts of every recorded log of a world rise.
use Rattle.std.proofs.Common.{◌≡◌, ℕ, suc, List, [], Some, arith}
use Rattle.std.specs.Prelude.{slice_get}
use Rattle.dl_entry.specs.Numbers.{most_threads}
use Rattle.dl_entry.specs.declared.Point.{Point}
use Rattle.spec_sphere.specs.sphere.Setups.{RecordSetup, IsRecorded, SphereSetup}
use Rattle.spec_protocol.specs.machine.Machine.{Setup}
use Rattle.spec_protocol.specs.machine.Serial.{serial_start, do_points, CanDoAll}
use Rattle.spec_sphere.specs.sphere.Logged.{interrupts_of, all_interrupts}
use Rattle.spec_protocol.specs.machine.Logged.{supplied}
use Rattle.spec_sphere.proofs.Replays.Uses.{Rising}
use Rattle.spec_sphere.proofs.Points.OneMore.{points_so, commits_of, are-ints}
use Rattle.spec_protocol.proofs.Points.OneByOne.{HoldsIn, points-kept}
use Rattle.spec_protocol.proofs.Points.Logs.{how_kept, start-kept}
use Rattle.spec_sphere.proofs.Points.Rising.{KeepsRising, rising-by_points, rising-from}

-- the interrupts of a recorded sphere's log rise
pub recorded-rising : (s : Setup) (i : ℕ) (image : SphereSetup) (asked : RecordSetup) → slice_get s.spheres i ≡ Some image → image.role ≡ IsRecorded asked
    → (ps : List Point) → CanDoAll (serial_start s) ps → Rising (all_interrupts (λ k. 0) (points_so (supplied i (serial_start s) ps)))
recorded-rising s i image asked there role ps can =
    let how = how_kept s asked in
    let cs = supplied i (serial_start s) ps in
    let first = start-kept s i image asked there role in
    let start : HoldsIn (KeepsRising how) i [] (serial_start s) = record { sphere = first.sphere; there = first.there; holds = (first.holds, λ k. tt) } in
    let k : HoldsIn (KeepsRising how) i cs (do_points (serial_start s) ps) = points-kept (KeepsRising how) (rising-by_points how) i [] (serial_start s) ps start can in
    rising-from (λ j. interrupts_of j 0 (points_so cs)) (λ j. suc (commits_of j (points_so cs)))
    (λ j. are-ints j 0 (suc (commits_of j (points_so cs))) (points_so cs) (omega arith)) k.holds.1 0 most_threads
