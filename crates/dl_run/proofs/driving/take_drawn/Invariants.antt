use Rattle.std.proofs.Common.{◌-◌}
use Rattle.dl_event.specs.Seeded.{schedule, seeded}
use Rattle.dl_run.proofs.Taking.{Driving}
use Rattle.dl_run.proofs.driving.take_drawn.Given as goal

abbrev pub invariant-loop : goal.invariant-loop
invariant-loop g l = Driving (schedule l.events (seeded l.seed)) (schedule (l.events - l.counter) l.drawn) l.initial.machine l.machine
