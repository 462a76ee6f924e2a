use Rattle.std.proofs.lemmas.Result.{IfOk-weaker, IfErr-weaker}
use Rattle.spec_program.specs.commands.Run.{reads}
use Rattle.spec_program.specs.Tasks.{task_named}
use Rattle.dl_gather.proofs.Stopping.{stage_halts}
use Rattle.dl_commands.proofs.Finishing.{run_is, run_limited}
use Rattle.dl_commands.proofs.plans.run_plan.Goals as goal

pub returns-clause-job : goal.returns-clause-job
returns-clause-job g c = IfOk-weaker c.run_named.result _ _ (λ job is m e. run_is (task_named m c.args.plan.now) job (is m e)) c.run_named.ensures.job

pub returns-clause-limits : goal.returns-clause-limits
returns-clause-limits g c = IfOk-weaker c.run_named.result _ _ (λ job is m e. run_limited c.args.plan.now m job (is m e)) c.run_named.ensures.job

pub returns-clause-halt : goal.returns-clause-halt
returns-clause-halt g c =
    let plan = c.args.plan.now in
    IfErr-weaker c.run_named.result _ _ (λ halt halts. stage_halts (λ m. reads m plan) (λ m. task_named m plan) _ _ _ halt halts) c.run_named.ensures.halt
