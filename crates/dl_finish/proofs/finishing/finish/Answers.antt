use Rattle.std.proofs.Common.{◌≡◌, Bool, true, false, refl, ◌+◌, subst, sym, ap, ◌∙◌, arith, List}
use Rattle.std.proofs.lemmas.Result.{err_from_is_err_and}
use Rattle.spec_protocol.specs.declared.event.Event.{Event}
use Rattle.spec_protocol.specs.machine.Machine.{Setup}
use Rattle.spec_protocol.specs.machine.World.{World}
use Rattle.dl_machine.specs.Events.{wants_memory}
use Rattle.dl_machine.specs.Runs.{IsRun}
use Rattle.dl_finish.specs.Runs.{HasBegun}
use Rattle.dl_finish.proofs.Going.{Going, going_start, going_next, going_finished, going_ended, going_begun, begun_alike, happens_events, step_again}
use Rattle.dl_finish.proofs.finishing.finish.Goals as goal

-- it takes memory, because otherwise it couldn't have answered an error
wants_if : (b : Bool) → (b ≡ false → false ≡ true) → b ≡ true
wants_if true or_else = refl
wants_if false or_else = or_else refl

pub loop-event-init : goal.loop-event-init
loop-event-init g c = going_start c.args.machine.now c.has_run.ensures c.requires.events c.requires.commits

pub loop-machine-init : goal.loop-machine-init
loop-machine-init g c =
    let from = c.args.machine.now in
    let now = c.loop-event.machine in
    record {
      going = going_next from now c.apply.new.self c.in-Some.event c.loop-event.invariant c.in-Some.ensures c.in_ok-reply.ensures.alike c.in_ok-reply.ensures.run;
      later = omega arith;
      again = step_again now c.apply.new.self c.in-Some.event c.in_ok-reply.reply (sym c.in-Some.ensures) c.in_ok-reply.ensures.alike c.in_ok-reply.ensures.done;
    }

pub loop-machine-smaller : goal.loop-machine-smaller
loop-machine-smaller g c =
    let old = c.loop-machine.machine in
    let new = c.apply-in-Step-Ran.new.self in
    let more : new.counts.events ≡ old.counts.events + 1 = ap (λ (w : World). w.counts.events) c.in_ok-reply-2.ensures.alike ∙ happens_events old c.in-Some.event in
    let few = c.loop-machine.invariant.going.few in
    omega (arith, more, few)

pub loop-machine-preserved : goal.loop-machine-preserved
loop-machine-preserved g c =
    let from = c.args.machine.now in
    let now = c.loop-machine.machine in
    let is = c.loop-machine.invariant.again c.in-Step-Ran.field-0-0 c.in-Step-Ran.is-0 c.in-Step-Ran.is-1 in
    let more = ap (λ (w : World). w.counts.events) c.in_ok-reply-2.ensures.alike ∙ happens_events now c.in-Some.event in
    let later = c.loop-machine.invariant.later in
    record {
      going = going_next from now c.apply-in-Step-Ran.new.self c.in-Some.event c.loop-machine.invariant.going (sym is) c.in_ok-reply-2.ensures.alike c.in_ok-reply-2.ensures.run;
      later = omega (arith, more, later);
      again = step_again now c.apply-in-Step-Ran.new.self c.in-Some.event c.in_ok-reply-2.reply is c.in_ok-reply-2.ensures.alike c.in_ok-reply-2.ensures.done;
    }

pub loop-event-smaller : goal.loop-event-smaller
loop-event-smaller g c =
    let old = c.loop-event.machine in
    let first = c.apply.new.self in
    let more : first.counts.events ≡ old.counts.events + 1 = ap (λ (w : World). w.counts.events) c.in_ok-reply.ensures.alike ∙ happens_events old c.in-Some.event in
    let later = c.loop-machine.invariant.later in
    let few = c.loop-machine.invariant.going.few in
    omega (arith, more, later, few)

pub loop-event-smaller-in_default-2 : goal.loop-event-smaller-in_default-2
loop-event-smaller-in_default-2 g c =
    let old = c.loop-event.machine in
    let first = c.apply.new.self in
    let more : first.counts.events ≡ old.counts.events + 1 = ap (λ (w : World). w.counts.events) c.in_ok-reply.ensures.alike ∙ happens_events old c.in-Some.event in
    let later = c.loop-machine.invariant.later in
    let few = c.loop-machine.invariant.going.few in
    omega (arith, more, later, few)

pub returns-in_err-reply-clause-refused : goal.returns-in_err-reply-clause-refused
returns-in_err-reply-clause-refused g c =
    let from = c.args.machine.now in
    let now = c.loop-event.machine in
    let wants = wants_if (wants_memory c.in-Some.event) c.in_err-reply.ensures.plenty in
    let begun = going_begun from now c.in-Some.event c.loop-event.invariant c.in-Some.ensures wants in
    let p = err_from_is_err_and c.from_residual.result c.from_residual.ensures.1 in
    rw p.1 (begun_alike from now c.apply.new.self c.in_err-reply.ensures.refused_run begun)

pub returns-in_err-reply-2-clause-refused : goal.returns-in_err-reply-2-clause-refused
returns-in_err-reply-2-clause-refused g c =
    let from = c.args.machine.now in
    let now = c.loop-machine.machine in
    let is = c.loop-machine.invariant.again c.in-Step-Ran.field-0-0 c.in-Step-Ran.is-0 c.in-Step-Ran.is-1 in
    let wants = wants_if (wants_memory c.in-Some.event) c.in_err-reply-2.ensures.plenty in
    let begun = going_begun from now c.in-Some.event c.loop-machine.invariant.going (sym is) wants in
    let p = err_from_is_err_and c.from_residual-in_err-reply-2.result c.from_residual-in_err-reply-2.ensures.1 in
    rw p.1 (begun_alike from now c.apply-in-Step-Ran.new.self c.in_err-reply-2.ensures.refused_run begun)

pub returns-clause-finished : goal.returns-clause-finished
returns-clause-finished g c = going_finished c.args.machine.now c.loop-event.machine c.loop-event.invariant (sym c.in_default.is ∙ c.next_event.ensures)

pub returns-clause-run : goal.returns-clause-run
returns-clause-run g c = going_ended c.args.machine.now c.loop-event.machine c.loop-event.invariant (sym c.in_default.is ∙ c.next_event.ensures)
