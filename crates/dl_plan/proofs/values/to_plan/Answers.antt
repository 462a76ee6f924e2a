use Rattle.std.proofs.Common.{◌≡◌, ap, map, length, arith}
use Rattle.dl_plan.specs.Plans.{sphere_asked}
use Rattle.dl_plan.specs.Values.{sphere_view}
use Rattle.dl_plan.specs.Views.{entry_view}
use Rattle.dl_plan.proofs.Counted.{few_spheres}
use Rattle.dl_plan.proofs.Each.{each_length}
use Rattle.dl_plan.proofs.values.to_plan.Goals as goal

pub returns-clause-limits : goal.returns-clause-limits
returns-clause-limits c =
    let same : length (map sphere_view c.in_ok-spheres.spheres.items) ≡ length (map entry_view c.deref.result.now) = each_length sphere_asked _ _ c.in_ok-spheres.ensures.ok in
    let few = few_spheres (map entry_view c.args.entries.now.spheres.items) c.in-Some.ensures.spheres in
    record {
      sizes = c.in-Some.ensures.limits;
      schedule = c.in_ok-schedule.ensures.limits;
      spheres = (omega (arith, same, few, ap (λ x. length (map entry_view x)) c.deref.ensures.value), omega (arith, same, few, ap (λ x. length (map entry_view x)) c.deref.ensures.value));
      memories = c.in_ok-spheres.ensures.memories;
      roles = c.in_ok-spheres.ensures.roles;
    }
