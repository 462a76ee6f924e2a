use Rattle.std.proofs.Common.{◌≡◌, true, get_or, [], Some, None, refl, sym, ◌∙◌, arith}
use Rattle.std.proofs.lemmas.List.{length-set}
use Rattle.dl_moments.specs.Marks.{value_at, with_mark_if}
use Rattle.dl_input.specs.Tracked.{tracked_from, raised_at}
use Rattle.dl_input.proofs.TrackedLists.{insert-put, raised_at-at, moment-within, count-set}
use Rattle.dl_input.proofs.interrupts.Interrupts.take.Goals as goal

pub returns-in-Some-clause-entries : goal.returns-in-Some-clause-entries
returns-in-Some-clause-entries c =
    let lanes = c.self.inside.moments.lanes in
    let t = c.args.thread in
    let i = c.args.index in
    let raised = c.in-Some.raised in
    let here : value_at i (get_or lanes t []) ≡ Some raised = sym c.at.ensures ∙ c.in-Some.is in
    let seen : raised_at (tracked_from 0 lanes) t i ≡ Some raised = sym (raised_at-at lanes t i) ∙ here in
    rw (← c.self.view_is, seen, c.set.ensures.lanes, here)
    (insert-put lanes t i (record { value = raised.value; taken = true }) (moment-within lanes t i raised here))

pub returns-in_default-clause-entries : goal.returns-in_default-clause-entries
returns-in_default-clause-entries c =
    let lanes = c.self.inside.moments.lanes in
    let none : raised_at (tracked_from 0 lanes) c.args.thread c.args.index ≡ None =
    sym (raised_at-at lanes c.args.thread c.args.index) ∙ (sym c.at.ensures ∙ c.in_default.is) in
    rw (← c.self.view_is, none) refl

pub invariant_of-self : goal.invariant_of-self
invariant_of-self c =
    let lanes = c.self.inside.moments.lanes in
    let t = c.args.thread in
    let raised = c.in-Some.raised in
    let lane = with_mark_if c.args.index (record { value = raised.value; taken = true }) (get_or lanes t []) in
    let here : value_at c.args.index (get_or lanes t []) ≡ Some raised = sym c.at.ensures ∙ c.in-Some.is in
    let within = moment-within lanes t c.args.index raised here in (
      rw c.set.ensures.lanes (length-set lanes t lane ∙ c.self.invariant.0),
      omega (arith, c.self.invariant.1, count-set lanes c.set.new.self.lanes t lane within c.set.ensures.lanes c.set.ensures.count),
    )
