use Rattle.std.proofs.Common.{map}
use Rattle.dl_sphere.specs.Setups.{setup_of as sphere_setup}
use Rattle.dl_gather.specs.Inputs.{sphere_view}
use Rattle.dl_gather.proofs.Recordable.{all_in_order, set_up_recordable}
use Rattle.dl_gather.proofs.task.task_of.Goals as goal

pub setup_of-setup-requires-clause-recorded : goal.setup_of-setup-requires-clause-recorded
setup_of-setup-requires-clause-recorded c =
    set_up_recordable c.args.plan.now.sizes.chunk 0 (map sphere_view c.args.inputs.spheres.items) c.in_ok-images.images.items (map sphere_setup c.in_ok-spheres.spheres.items)
    c.requires.inputs.roles c.in_ok-spheres.ensures.spheres

pub setups_of-requires-clause-order : goal.setups_of-requires-clause-order
setups_of-requires-clause-order c =
    all_in_order c.args.plan.now.sizes.chunk (map sphere_view c.args.inputs.spheres.items) c.requires.inputs.roles
