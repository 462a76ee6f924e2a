use Rattle.std.proofs.Common.{◌+◌, ◌<◌, length, ap, sym, ◌∙◌, arith}
use Rattle.std.proofs.lemmas.List.{length-set}
use Rattle.std.proofs.lemmas.Result.{on_ok_weaker, on_err_weaker}
use Rattle.dl_moments.specs.Marks.{with_mark}
use Rattle.dl_moments.proofs.Lanes.{changed_lane, same_lane, none_at, HaveNone-set}
use Rattle.dl_moments.proofs.moments.Moments.put.Goals as goal

-- a thread that has a lane

pub invariant_of-self : goal.invariant_of-self
invariant_of-self g c =
    let i = c.self.invariant in
    let lanes = c.self.inside.lanes.items in
    (length-set lanes c.from-place.result c.put.new.self ∙ i.0, i.1, HaveNone-set lanes c.self.inside.used c.self.inside.used c.from-place.result c.put.new.self i.2 (omega arith) c.if-place-self.true, i.3)

pub returns-then-place-self-clause-ok : goal.returns-then-place-self-clause-ok
returns-then-place-self-clause-ok g c =
    let lanes = c.self.inside.lanes.items in
    let within : c.args.thread < length lanes = omega (arith, c.self.invariant.0) in
    rw (← c.self.view_is, c.from-place.ensures)
    (on_ok_weaker c.put.result
    (λ e. changed_lane lanes c.args.thread c.index_mut-lane.result.now c.put.new.self (λ m. with_mark c.args.index c.args.value m) within
    (rw c.from-place.ensures at c.index_mut-lane.ensures.value) e)
    c.put.ensures.ok)

pub returns-then-place-self-clause-err : goal.returns-then-place-self-clause-err
returns-then-place-self-clause-err g c =
    let lanes = c.self.inside.lanes.items in
    let within : c.args.thread < length lanes = omega (arith, c.self.invariant.0) in
    rw (← c.self.view_is, c.from-place.ensures)
    (on_err_weaker c.put.result
    (λ e. same_lane lanes c.args.thread c.index_mut-lane.result.now c.put.new.self within (rw c.from-place.ensures at c.index_mut-lane.ensures.value) e)
    c.put.ensures.err)

-- the first value of a thread

pub invariant_of-self-2 : goal.invariant_of-self-2
invariant_of-self-2 g c =
    let i = c.self.invariant in
    let lanes = c.self.inside.lanes.items in
    let t = c.from-place.result in
    let within : t < length lanes = omega (arith, i.0) in (
      length-set lanes t c.swap.new.x ∙ i.0,
      omega arith,
      HaveNone-set lanes c.self.inside.used (t + 1) t c.swap.new.x i.2 (omega arith) (omega arith),
      rw c.swap.ensures.y_after (none_at lanes c.self.inside.used t c.index_mut.result.now i.2 (omega arith) within c.index_mut.ensures.value),
    )

pub returns-clause-ok : goal.returns-clause-ok
returns-clause-ok g c =
    let i = c.self.invariant in
    let lanes = c.self.inside.lanes.items in
    let t = c.from-place.result in
    let old = c.index_mut.result.now in
    let within : t < length lanes = omega (arith, i.0) in
    let none = none_at lanes c.self.inside.used t old i.2 (omega arith) within c.index_mut.ensures.value in
    let put = c.in_ok-put.ensures.ok ∙ ap (λ m. with_mark c.args.index c.args.value m) (i.3 ∙ sym none) in
    rw (← c.self.view_is, ← c.from-place.ensures)
    (changed_lane lanes t old c.swap.new.x (λ m. with_mark c.args.index c.args.value m) within c.index_mut.ensures.value (rw c.swap.ensures.x_after put))
