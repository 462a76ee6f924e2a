use Rattle.std.proofs.Common.{map, rules}
use Rattle.dl_plan.specs.Views.{entry_view}
use Rattle.dl_plan.proofs.Parted.{all_parted}
use Rattle.dl_plan.proofs.Longest.{all_can}
use Rattle.dl_plan.proofs.Ordered.{all_ordered}
use Rattle.dl_plan.proofs.read.plan_in.Goals as goal

pub returns-clause-limits : goal.returns-clause-limits
returns-clause-limits c = record {
  numbers = c.in_ok-plan.ensures.limits;
  chunk = all_can _ _ (search rules);
  order = all_ordered (map entry_view c.args.entries.now.spheres.items) _ c.in_ok-plan.ensures.spheres (search rules);
  epochs = all_parted (map entry_view c.args.entries.now.spheres.items) _ c.in_ok-plan.ensures.spheres (search rules);
}
