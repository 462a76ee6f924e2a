use Rattle.std.proofs.Common.{◌≤◌, ◌^◌, ℕ, sym, subst}
use Rattle.dl_event.specs.Seeded.{seeded}
use Rattle.dl_gather.specs.declared.inputs.ScheduleInputs.{ScheduleInputs}
use Rattle.dl_gather.specs.Inputs.{IsScheduleRead, schedule_view}
use Rattle.dl_run.proofs.Drawn.{schedule_length}
use Rattle.dl_gather.proofs.events.read_events.Goals as goal

pub returns-in-Drawn-clause-few : goal.returns-in-Drawn-clause-few
returns-in-Drawn-clause-few c =
    let few : c.in-Drawn.events ≤ 2 ^ 24 = subst (λ (s : ScheduleInputs). IsScheduleRead (schedule_view s)) c.in-Drawn.is c.requires in
    subst (λ (n : ℕ). n ≤ 2 ^ 24) (sym (schedule_length c.in-Drawn.events (seeded c.args.seed))) few
