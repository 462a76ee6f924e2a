use Rattle.dl_plan.specs.Files.{input_names}
use Rattle.dl_plan.specs.Values.{plan_view}
use Rattle.spec_program.specs.Files.{plan_read}
use Rattle.spec_program.specs.Tasks.{task_planned}
use Rattle.dl_gather.specs.Halts.{Halts}
use Rattle.dl_gather.proofs.Stopping.{file_refused, halt_carried, unread_halts}
use Rattle.std.proofs.lemmas.Result.{IfOk-weaker}
use Rattle.dl_gather.specs.Inputs.{inputs_view}
use Rattle.dl_gather.proofs.task.load_task.Goals as goal

pub returns-in_err-inputs-clause-halt : goal.returns-in_err-inputs-clause-halt
returns-in_err-inputs-clause-halt g c =
    let p = plan_view c.args.plan.now in
    let old = g.F.Files.seen c.args.files.now in
    let new = g.F.Files.seen c.read_inputs.new.files in
    let halt = c.in_err-inputs.field-0.0 in
    halt_carried c.from_residual.result halt (Halts (λ m. task_planned m p) (λ m. input_names p) old new) c.from_residual.ensures.1
    (unread_halts (input_names p) (λ m. input_names p) (λ m. plan_read m p) (λ m. task_planned m p) old new halt
    (λ m x is. file_refused (plan_read m p) _ x is) (λ m x is. is) (λ m x next. next) c.in_err-inputs.ensures.halt)

pub returns-clause-read : goal.returns-clause-read
returns-clause-read g c = IfOk-weaker c.task_of.result _ _ (λ task of. (inputs_view c.in_ok-inputs.inputs, of)) c.task_of.ensures.task
