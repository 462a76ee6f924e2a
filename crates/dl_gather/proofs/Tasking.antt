-- What is made of the files that a plan has read is its task.
use Rattle.std.proofs.Common.{◌≡◌, List, Ok, refl, sym, ◌∙◌}
use Rattle.dl_elf.specs.Images.{Image}
use Rattle.dl_machine.specs.Setups.{setup_in as machine_of}
use Rattle.dl_plan.specs.Values.{PlanValues}
use Rattle.dl_run.specs.Schedules.{events_in}
use Rattle.spec_sphere.specs.sphere.Setups as protocol
use Rattle.spec_program.specs.Built.{images_of, spheres_of, events_of, setup_of}
use Rattle.spec_program.specs.Files.{PlanRead}
use Rattle.spec_program.specs.Tasks.{task_read}
use Rattle.dl_gather.specs.declared.task.Task.{Task}
use Rattle.dl_gather.specs.Tasks.{IsTaskOf}
use Rattle.dl_gather.proofs.Stopping.{ok_then}

-- the task of the images, the spheres and the events
pub task_is : (p : PlanValues) (r : PlanRead) (images : List Image) (spheres : List protocol.SphereSetup) (task : Task)
    → images_of 0 r.spheres ≡ Ok images → spheres_of 0 r.spheres images ≡ Ok spheres → events_of p.sizes.seed r.schedule ≡ Ok (events_in task.schedule)
    → machine_of task.setup ≡ setup_of p r.input spheres → IsTaskOf p (task_read p r) task
task_is p r images spheres task are made events same = record {
  is = record { plan = p; read = r; spheres = spheres; events = events_in task.schedule };
  asks = ok_then (images_of 0 r.spheres) _ images are ∙ ok_then (spheres_of 0 r.spheres images) _ spheres made ∙ ok_then (events_of p.sizes.seed r.schedule) _ (events_in task.schedule) events;
  plan = refl;
  setup = sym same;
  events = refl;
}
