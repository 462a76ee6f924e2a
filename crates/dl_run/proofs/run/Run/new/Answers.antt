use Rattle.std.proofs.Common.{arith}
use Rattle.dl_machine.specs.Setups.{setup_in}
use Rattle.dl_run.specs.Schedules.{events_in}
use Rattle.dl_run.proofs.Taking.{run_room, run_events, run_over}
use Rattle.dl_run.proofs.run.Run.new.Goals as goal

pub finish-requires-clause-events : goal.finish-requires-clause-events
finish-requires-clause-events c =
    let s = setup_in c.args.setup in
    let es = events_in c.args.schedule.now in
    let e = run_events s es c.drive.new.machine (c.in_ok-drive.ensures s c.in_ok-machine.ensures.run) in
    let few = c.requires.few in
    omega (arith, e, few)

pub finish-requires-clause-commits : goal.finish-requires-clause-commits
finish-requires-clause-commits c =
    let s = setup_in c.args.setup in
    run_room s (events_in c.args.schedule.now) c.drive.new.machine (c.in_ok-drive.ensures s c.in_ok-machine.ensures.run) c.requires.few

pub invariant_of-result : goal.invariant_of-result
invariant_of-result c =
    let s = setup_in c.args.setup in
    let es = events_in c.args.schedule.now in
    let run = c.in_ok-drive.ensures s c.in_ok-machine.ensures.run in
    let last = c.in_ok-begin_epochs.ensures in
    (es, run_over s es c.drive.new.machine c.finish.new.machine c.begin_epochs.new.self run c.requires.few (c.in_ok-finish.ensures.run s es run) last.run last.begun)

pub returns-clause-over : goal.returns-clause-over
returns-clause-over c =
    let s = setup_in c.args.setup in
    let es = events_in c.args.schedule.now in
    let run = c.in_ok-drive.ensures s c.in_ok-machine.ensures.run in
    let last = c.in_ok-begin_epochs.ensures in
    run_over s es c.drive.new.machine c.finish.new.machine c.begin_epochs.new.self run c.requires.few (c.in_ok-finish.ensures.run s es run) last.run last.begun
