use Rattle.spec_program.proofs.Finishing.{finished_has_task, task_run}
use Rattle.spec_program.proofs.promise.tasks_are_run.Goals as goal

pub returns : goal.returns
returns c = record { run = task_run; finishing = finished_has_task }
