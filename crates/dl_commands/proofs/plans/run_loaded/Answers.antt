use Rattle.dl_plan.specs.Files.{input_names}
use Rattle.dl_plan.specs.Values.{plan_view}
use Rattle.spec_program.specs.Tasks.{task_planned}
use Rattle.dl_gather.specs.Halts.{Halts}
use Rattle.dl_gather.proofs.Stopping.{halt_carried}
use Rattle.dl_commands.proofs.Finishing.{some_run, task_run}
use Rattle.dl_commands.proofs.plans.run_loaded.Goals as goal

pub returns-in_err-task-clause-halt : goal.returns-in_err-task-clause-halt
returns-in_err-task-clause-halt g c =
    let p = plan_view c.args.plan.now in
    let old = g.F.Files.seen c.args.files.now in
    let new = g.F.Files.seen c.load_task.new.files in
    halt_carried c.from_residual.result c.in_err-task.field-0.0 (Halts (λ m. task_planned m p) (λ m. input_names p) old new) c.from_residual.ensures.1
    c.in_err-task.ensures.halt

pub returns-clause-job : goal.returns-clause-job
returns-clause-job g c =
    λ m e.
    let p = plan_view c.args.plan.now in
    task_run p (task_planned m p) c.in_ok-task.task c.in_ok-run.field-0 (c.in_ok-task.ensures.task m e) c.in_ok-run.ensures

pub returns-clause-may : goal.returns-clause-may
returns-clause-may g c =
    let read = c.in_ok-task.ensures.read in
    some_run (plan_view c.args.plan.now) read.0 c.in_ok-task.task c.in_ok-run.field-0 read.1 c.in_ok-run.ensures
