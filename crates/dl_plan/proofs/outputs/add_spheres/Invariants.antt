use Rattle.std.proofs.Common.{◌≡◌, ◌++◌, map, drop}
use Rattle.dl_plan.specs.Files.{written_from}
use Rattle.dl_plan.specs.Values.{sphere_view}
use Rattle.dl_plan.specs.Views.{output_view}
use Rattle.dl_plan.proofs.outputs.add_spheres.Given as goal

-- with the files of the spheres to come, all are there
abbrev pub invariant-loop-i : goal.invariant-loop-i
invariant-loop-i l = map output_view l.outputs.items ++ written_from l.i (map sphere_view (drop l.i l.spheres)) ≡ map output_view l.fn.outputs.items ++ written_from 0 (map sphere_view l.spheres)
