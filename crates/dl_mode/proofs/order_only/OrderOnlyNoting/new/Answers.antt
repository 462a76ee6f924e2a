use Rattle.std.proofs.Common.{arith}
use Rattle.dl_mode.proofs.order_only.OrderOnlyNoting.new.Goals as goal

pub invariant_of-result : goal.invariant_of-result
invariant_of-result c = rw c.new.ensures.items (omega arith)
