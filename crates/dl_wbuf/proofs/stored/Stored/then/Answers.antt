-- Lane by lane, what is made is both stores as one.
use Rattle.dl_wbuf.proofs.LaneLaws.{IsExact-then, bytes_of-then}
use Rattle.dl_wbuf.proofs.stored.Stored.then.Goals as goal

pub invariant_of-result : goal.invariant_of-result
invariant_of-result c = rw c.laid_over.ensures (IsExact-then _ _ _ _ _ c.self.invariant)

pub returns : goal.returns
returns c = rw (← c.self.view_is, c.laid_over.ensures) (bytes_of-then _ _ _ _ _ _)
