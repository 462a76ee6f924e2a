use Rattle.std.proofs.Common.{◌+◌, List, drop, subst}
use Rattle.spec_protocol.specs.declared.event.Event.{Event}
use Rattle.dl_event.specs.Repeated.{expanded}
use Rattle.dl_run.proofs.Taking.{Driving, driving_next, driving_room, driving_events, repeated_here, one_of, none_of}
use Rattle.dl_run.proofs.driving.take_listed.Goals as goal

pub apply-requires-clause-events : goal.apply-requires-clause-events
apply-requires-clause-events g c =
    let now = c.loop in
    driving_events c.args.events.now _ c.args.machine.now now.machine now.invariant c.requires.few

pub apply-requires-clause-commits : goal.apply-requires-clause-commits
apply-requires-clause-commits g c =
    let now = c.loop in
    driving_room c.args.events.now _ c.args.machine.now now.machine now.invariant c.requires.few

pub loop-init : goal.loop-init
loop-init g c =
    let now = c.loop-repeated in
    let rs = c.repeated-repeated-items.result.now in
    subst (λ (es : List Event). Driving c.args.events.now es c.args.machine.now now.machine) (repeated_here rs now.repeated-index _ c.loop-repeated-test.true) now.invariant

pub loop-preserved : goal.loop-preserved
loop-preserved g c =
    let now = c.loop in
    let rest = expanded (drop (c.loop-repeated.repeated-index + 1) c.repeated-repeated-items.result.now) in
    driving_next c.args.events.now _ _ c.args.machine.now now.machine c.apply.new.self
    (subst (λ (es : List Event). Driving c.args.events.now es c.args.machine.now now.machine) (one_of _ now.counter _ rest c.loop-test.true) now.invariant)
    c.in_ok-apply.ensures.run

pub loop-repeated-preserved : goal.loop-repeated-preserved
loop-repeated-preserved g c =
    let now = c.loop in
    let rest = expanded (drop (c.loop-repeated.repeated-index + 1) c.repeated-repeated-items.result.now) in
    subst (λ (es : List Event). Driving c.args.events.now es c.args.machine.now now.machine) (none_of _ now.counter _ rest c.loop-test.false) now.invariant
