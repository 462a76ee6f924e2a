use Rattle.std.proofs.Common.{◌≡◌, ◌++◌, map, drop}
use Rattle.dl_plan.specs.Files.{read_from}
use Rattle.dl_plan.specs.Values.{sphere_view}
use Rattle.dl_plan.specs.Views.{input_view}
use Rattle.dl_plan.proofs.inputs.add_spheres.Given as goal

-- with the files of the spheres to come, all are there
abbrev pub invariant-loop-i : goal.invariant-loop-i
invariant-loop-i l = map input_view l.inputs.items ++ read_from l.i (map sphere_view (drop l.i l.spheres)) ≡ map input_view l.fn.inputs.items ++ read_from 0 (map sphere_view l.spheres)
