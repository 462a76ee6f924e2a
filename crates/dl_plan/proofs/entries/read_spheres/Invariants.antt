use Rattle.std.proofs.Common.{◌≡◌, map, drop}
use Rattle.toml.specs.View.{view}
use Rattle.dl_plan.specs.Entries.{sphere_in}
use Rattle.dl_plan.specs.Optional.{each_of}
use Rattle.dl_plan.specs.Views.{entry_view}
use Rattle.dl_plan.proofs.Each.{after}
use Rattle.dl_plan.proofs.entries.read_spheres.Given as goal

-- the spheres come first in what is read of all
abbrev pub invariant-loop-item : goal.invariant-loop-item
invariant-loop-item l = each_of sphere_in (map view l.items) ≡ after (map entry_view l.spheres.items) (each_of sphere_in (map view (drop l.item-index l.items)))
