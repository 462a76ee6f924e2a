use Rattle.std.proofs.Common.{◌∙◌, ap, sym}
use Rattle.toml.specs.View.{view}
use Rattle.dl_plan.specs.Entries.{sphere_in}
use Rattle.dl_plan.specs.Views.{entry_view}
use Rattle.dl_plan.proofs.Each.{next_after}
use Rattle.dl_plan.proofs.entries.read_spheres.Goals as goal

pub loop-item-preserved : goal.loop-item-preserved
loop-item-preserved c =
    next_after sphere_in view entry_view c.args.items.now c.loop-item.item-index c.item-item.result c.in-Some.sphere c.loop-item.spheres.items c.push.new.self.items
    c.loop-item-test.true (ap (λ item. sphere_in (view item)) (sym c.item-item.is) ∙ sym c.in-Some.ensures) c.in-Ok.ensures.items c.loop-item.invariant
