use Rattle.std.proofs.Common.{ℕ, length, map, ap, ◌∙◌, sym, subst}
use Rattle.dl_plan.specs.Values.{plan_view}
use Rattle.dl_plan.specs.Views.{output_view}
use Rattle.dl_commands.specs.Products.{AreProducts}
use Rattle.dl_commands.proofs.Planned.{plan_products}
use Rattle.dl_commands.proofs.running.job_of.Goals as goal

pub writes_to-requires : goal.writes_to-requires
writes_to-requires c =
    let p = plan_view c.args.plan.now in
    subst (λ (n : ℕ). AreProducts n (map output_view c.deref.result.now)) (sym c.requires)
    (subst (AreProducts (length p.spheres)) (sym (ap (map output_view) c.deref.ensures.value ∙ c.in_ok-outputs.ensures)) (plan_products p))
