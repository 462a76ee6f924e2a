use Rattle.dl_moments.proofs.Places.{Rises-with_mark}
use Rattle.dl_moments.proofs.lane.Lane.set.Goals as goal

pub invariant_of-self : goal.invariant_of-self
invariant_of-self g c =
    let s = rw c.deref.ensures.value at c.in-Ok.ensures in
    rw (← s.put c.args.value) (Rises-with_mark c.args.index c.args.value c.self.inside.marks.items c.self.invariant)
