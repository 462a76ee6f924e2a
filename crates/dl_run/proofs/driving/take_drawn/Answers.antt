use Rattle.std.proofs.Common.{◌≡◌, ℕ, suc, ◌+◌, ◌-◌, List, ◌∷◌, ap, ◌∙◌, subst, arith}
use Rattle.spec_protocol.specs.declared.event.Event.{Event}
use Rattle.dl_event.specs.Seeded.{schedule, seeded}
use Rattle.dl_run.proofs.Taking.{Driving, driving_next, driving_room, driving_events, driving_end, none_drawn}
use Rattle.dl_run.proofs.driving.take_drawn.Goals as goal

pub apply-requires-clause-events : goal.apply-requires-clause-events
apply-requires-clause-events g c =
    let now = c.loop in
    driving_events (schedule c.args.events (seeded c.args.seed)) (schedule (c.args.events - now.counter) now.drawn) c.args.machine.now now.machine now.invariant c.requires.few

pub apply-requires-clause-commits : goal.apply-requires-clause-commits
apply-requires-clause-commits g c =
    let now = c.loop in
    driving_room (schedule c.args.events (seeded c.args.seed)) (schedule (c.args.events - now.counter) now.drawn) c.args.machine.now now.machine now.invariant c.requires.few

pub loop-preserved : goal.loop-preserved
loop-preserved g c =
    let now = c.loop in
    let all = schedule c.args.events (seeded c.args.seed) in
    let n = c.args.events - (now.counter + 1) in
    let more : c.args.events - now.counter ≡ suc n = omega (arith, c.loop-test.true) in
    let left : schedule (c.args.events - now.counter) now.drawn ≡ c.next.result ∷ schedule n c.next.new.self = ap (λ (k : ℕ). schedule k now.drawn) more ∙ c.next.ensures.schedule n in
    driving_next all (schedule n c.next.new.self) c.next.result c.args.machine.now now.machine c.apply.new.self
    (subst (λ (es : List Event). Driving all es c.args.machine.now now.machine) left now.invariant)
    c.in_ok-apply.ensures.run

pub returns : goal.returns
returns g c =
    let now = c.loop in
    let all = schedule c.args.events (seeded c.args.seed) in
    driving_end all c.args.machine.now now.machine
    (subst (λ (es : List Event). Driving all es c.args.machine.now now.machine) (none_drawn (c.args.events - now.counter) now.drawn (omega (arith, c.loop-test.false))) now.invariant)
