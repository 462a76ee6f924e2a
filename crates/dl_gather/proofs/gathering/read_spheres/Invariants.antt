use Rattle.std.proofs.Common.{◌≡◌, ℕ, List, Some, length, map, drop, flat_map}
use Rattle.dl_files.specs.Contents.{Contents}
use Rattle.dl_plan.specs.Values.{sphere_view}
use Rattle.spec_program.specs.Ends.{IsReadNext}
use Rattle.spec_program.specs.Files.{spheres_read}
use Rattle.dl_gather.specs.Inputs.{ArePlannedRoles, AreReadRoles, HaveMemories, sphere_view as sphere_inputs}
use Rattle.dl_gather.specs.Reads.{read_for_sphere}
use Rattle.dl_gather.proofs.Stages.{after}
use Rattle.dl_gather.proofs.gathering.read_spheres.Given as goal

-- the spheres come first in what is read of all, and the turns of the names to come are turns
abbrev pub invariant-loop-sphere : goal.invariant-loop-sphere
invariant-loop-sphere g l = record {
  read : (m : Contents) → (g.F.Files.seen l.fn.files).known ≡ Some m → spheres_read m (map sphere_view l.spheres) ≡ after (map sphere_inputs l.read.items) (spheres_read m (map sphere_view (drop l.sphere-index l.spheres)));
  turns : (m : Contents) → (g.F.Files.seen l.fn.files).known ≡ Some m → (name : List ℕ) → IsReadNext (flat_map read_for_sphere (map sphere_view (drop l.sphere-index l.spheres))) m name → IsReadNext (flat_map read_for_sphere (map sphere_view l.spheres)) m name;
  seen : g.F.Files.seen l.files ≡ g.F.Files.seen l.fn.files;
  count : length l.read.items ≡ l.sphere-index;
  memories : HaveMemories (map sphere_inputs l.read.items);
  roles : (s : ℕ) → ArePlannedRoles s (map sphere_view l.spheres) → AreReadRoles s (map sphere_inputs l.read.items);
}
