use Rattle.std.proofs.Common.{◌≡◌, ◌≤◌, ◌-◌, ◌^◌, ℕ, Some}
use Rattle.spec_protocol.specs.declared.event.Event.{Event}
use Rattle.spec_protocol.specs.declared.reply.Reply.{Reply}
use Rattle.spec_protocol.specs.machine.Finishing.{next}
use Rattle.dl_finish.proofs.Going.{Going}
use Rattle.dl_finish.proofs.finishing.finish.Given as goal

abbrev pub invariant-loop-event : goal.invariant-loop-event
invariant-loop-event g l = Going l.initial.machine l.machine

abbrev pub decreases-loop-event : goal.decreases-loop-event
decreases-loop-event g l = 2 ^ 63 - l.machine.counts.events

-- if it was a step, and its instruction ran, it is next again
abbrev pub invariant-loop-machine : goal.invariant-loop-machine
invariant-loop-machine g l = record {
  going : Going l.fn.machine l.machine;
  later : l.initial.machine.counts.events ≤ l.machine.counts.events;
  again : (c : ℕ) → l.event ≡ Event.Step c → l.reply ≡ Reply.Ran → next l.machine ≡ Some l.event;
}

abbrev pub decreases-loop-machine : goal.decreases-loop-machine
decreases-loop-machine g l = 2 ^ 63 - l.machine.counts.events
