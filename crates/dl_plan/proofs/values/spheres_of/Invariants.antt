use Rattle.std.proofs.Common.{◌≡◌, map, drop}
use Rattle.dl_plan.specs.Optional.{each_of}
use Rattle.dl_plan.specs.Plans.{sphere_asked}
use Rattle.dl_plan.specs.Values.{sphere_view, AreMemories, AreRoles}
use Rattle.dl_plan.specs.Views.{entry_view}
use Rattle.dl_plan.proofs.Each.{after}
use Rattle.dl_plan.proofs.values.spheres_of.Given as goal

-- the spheres come first in what is made of all, and their numbers are in their limits
abbrev pub invariant-loop-entry : goal.invariant-loop-entry
invariant-loop-entry l =
    (each_of sphere_asked (map entry_view l.entries) ≡ after (map sphere_view l.spheres.items) (each_of sphere_asked (map entry_view (drop l.entry-index l.entries))))
    × AreMemories (map sphere_view l.spheres.items)
    × AreRoles (map sphere_view l.spheres.items)
