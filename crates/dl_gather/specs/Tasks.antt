-- The tasks of plans, as the code has them.
use Rattle.std.specs.Prelude.{◌≡◌, Result, Ok}
use Rattle.dl_machine.specs.Setups.{setup_in as machine_of}
use Rattle.dl_plan.specs.Values.{PlanValues}
use Rattle.dl_run.specs.Schedules.{events_in}
use Rattle.spec_program.specs.Stages.{Refused}
use Rattle.spec_program.specs.Tasks as tasks
use Rattle.dl_gather.specs.declared.task.Task.{Task}

-- the plan has that task
pub record IsTaskOf (p : PlanValues) (asked : Result tasks.Task Refused) (task : Task) : Type 0 where
  pub is : tasks.Task
  pub asks : asked ≡ Ok is
  pub plan : is.plan ≡ p
  pub setup : tasks.setup_in is ≡ machine_of task.setup
  pub events : is.events ≡ events_in task.schedule
