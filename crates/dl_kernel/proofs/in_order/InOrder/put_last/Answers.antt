use Rattle.std.proofs.Common.{arith}
use Rattle.dl_kernel.specs.InOrder.{joined}
use Rattle.dl_kernel.proofs.Joined.{items_of, none-left, none-waits}
use Rattle.dl_kernel.proofs.in_order.InOrder.put_last.Goals as goal

pub returns-then-self-eq0-clause-settled : goal.returns-then-self-eq0-clause-settled
returns-then-self-eq0-clause-settled c =
    let lists = items_of c.self.inside.by_thread.items in
    none-waits c.push_reserved.new.self.items lists (none-left (joined lists) (omega (arith, c.self.invariant.0, c.if-self-eq0.true)))
