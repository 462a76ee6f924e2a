-- A store of no byte is exact.
use Rattle.dl_wbuf.proofs.LaneLaws.{IsExact-none}
use Rattle.dl_wbuf.proofs.stored.Stored.none.Goals as goal

pub invariant_of-result : goal.invariant_of-result
invariant_of-result c = IsExact-none _ c.requires
