use Rattle.std.proofs.Common.{◌≡◌, ◌<◌, ◌∙◌, false, None, length, ap, arith}
use Rattle.std.proofs.lemmas.List.{length-set}
use Rattle.dl_input.specs.Tracked.{Noted, tracked_from, raised_at}
use Rattle.dl_input.proofs.TrackedLists.{insert-put, many-put}
use Rattle.dl_input.proofs.interrupts.Interrupts.note.Goals as goal

pub returns-clause-ok : goal.returns-clause-ok
returns-clause-ok c =
    let lanes = c.self.inside.moments.lanes in
    let within : c.args.thread < length lanes = omega (arith, c.self.invariant.0, c.requires.thread) in
    rw (← c.self.view_is)
    (ap (tracked_from 0) c.in_ok-put.ensures.ok ∙ insert-put lanes c.args.thread c.args.index (record { value = c.args.value; taken = false }) within)

pub invariant_of-self-2 : goal.invariant_of-self-2
invariant_of-self-2 c =
    let lanes = c.self.inside.moments.lanes in
    let within : c.args.thread < length lanes = omega (arith, c.self.invariant.0, c.requires.thread) in
    let none : raised_at (tracked_from 0 lanes) c.args.thread c.args.index ≡ None = rw (ap (λ (n : Noted). n.entries) c.self.view_is) c.requires.fresh in
    let many = many-put lanes c.put.new.self.lanes c.args.thread c.args.index (record { value = c.args.value; taken = false }) within c.in_ok-put.ensures.ok none in
    (rw c.in_ok-put.ensures.ok (length-set lanes c.args.thread _ ∙ c.self.invariant.0), omega (arith, many, c.self.invariant.1))

pub returns-clause-few : goal.returns-clause-few
returns-clause-few c =
    let lanes = c.self.inside.moments.lanes in
    let within : c.args.thread < length lanes = omega (arith, c.self.invariant.0, c.requires.thread) in
    let none : raised_at (tracked_from 0 lanes) c.args.thread c.args.index ≡ None = rw (ap (λ (n : Noted). n.entries) c.self.view_is) c.requires.fresh in
    let many = many-put lanes c.put.new.self.lanes c.args.thread c.args.index (record { value = c.args.value; taken = false }) within c.in_ok-put.ensures.ok none in
    omega (arith, many, c.self.invariant.1)
