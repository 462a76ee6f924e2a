use Rattle.dl_moments.proofs.Places.{Rises-with_mark}
use Rattle.dl_moments.proofs.lane.Lane.put.Goals as goal

pub invariant_of-self : goal.invariant_of-self
invariant_of-self g c =
    let s = rw c.deref.ensures.value at c.in-Ok.ensures in
    rw (← s.put c.args.value) (Rises-with_mark c.args.index c.args.value c.self.inside.marks.items c.self.invariant)

pub invariant_of-self-in-Continue-1 : goal.invariant_of-self-in-Continue-1
invariant_of-self-in-Continue-1 g c =
    let s = rw c.deref.ensures.value at c.in-Err.ensures in
    rw (c.in_ok-insert-in-Err.ensures.items, ← s.put c.args.value) (Rises-with_mark c.args.index c.args.value c.self.inside.marks.items c.self.invariant)
