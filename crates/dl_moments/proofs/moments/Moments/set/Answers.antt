use Rattle.std.proofs.Common.{◌<◌, ◌&&◌, Bool, length, ap, ◌∙◌, arith}
use Rattle.std.proofs.lemmas.List.{length-set}
use Rattle.dl_moments.specs.Marks.{with_mark_if}
use Rattle.dl_moments.proofs.Lanes.{changed_lane, same_count, same_room, HaveNone-set}
use Rattle.dl_moments.proofs.moments.Moments.set.Goals as goal

pub invariant_of-self : goal.invariant_of-self
invariant_of-self g c =
    let lanes = c.self.inside.lanes.items in
    let used = c.self.inside.used in
    let t = c.from-place.result in
    let i = c.self.invariant in
    (length-set lanes t c.set.new.self ∙ i.0, i.1, HaveNone-set lanes used used t c.set.new.self i.2 (omega arith) c.if-place-self.true, i.3)

pub returns-then-place-self : goal.returns-then-place-self
returns-then-place-self g c =
    let lanes = c.self.inside.lanes.items in
    let within : c.args.thread < length lanes = omega (arith, c.self.invariant.0) in
    let is = rw c.from-place.ensures at c.index_mut-lane.ensures.value in
    let old = c.index_mut-lane.result.now in
    let new = c.set.new.self in
    record {
      lanes = rw (← c.self.view_is, c.from-place.ensures)
          (changed_lane lanes c.args.thread old new (λ m. with_mark_if c.args.index c.args.value m) within is c.set.ensures.marks);
      count = rw (← c.self.view_is, c.from-place.ensures) (same_count lanes c.args.thread old new within is c.set.ensures.count);
      room = rw (← c.self.view_is, c.from-place.ensures)
          (ap (λ (b : Bool). b && c.self.inside.spare.room) (same_room lanes c.self.inside.used c.args.thread old new within is c.set.ensures.room));
    }
