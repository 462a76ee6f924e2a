use Rattle.std.proofs.Common.{List, subst}
use Rattle.std.proofs.lemmas.Result.{IfOk-weaker}
use Rattle.dl_machine.specs.Setups.{setup_in}
use Rattle.dl_plan.specs.Values.{plan_view}
use Rattle.dl_run.specs.Ran.{IsOver}
use Rattle.dl_run.specs.Schedules.{events_in}
use Rattle.spec_protocol.specs.declared.event.Event.{Event}
use Rattle.spec_protocol.specs.machine.Machine.{Setup}
use Rattle.dl_commands.specs.Jobs.{IsRunOf}
use Rattle.dl_commands.proofs.running.run.Goals as goal

pub returns : goal.returns
returns c =
    let run = c.in_ok-run.run' in
    let p = plan_view c.args.plan.now in
    let scheduled = events_in c.args.schedule.now in
    IfOk-weaker c.job_of.result
    (λ job. (es : List Event) → IsOver es run → IsRunOf p run.setup es job)
    (IsRunOf p (setup_in c.args.setup) scheduled)
    (λ job made.
    subst (λ (s : Setup). IsRunOf p s scheduled job) c.in_ok-run.ensures.setup (made scheduled c.in_ok-run.ensures.over))
    c.job_of.ensures
