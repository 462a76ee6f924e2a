use Rattle.std.proofs.Common.{refl}
use Rattle.dl_mode.proofs.Nothing.{IsWhole-none}
use Rattle.dl_mode.proofs.order_size.OrderSizeLog.empty.Goals as goal

pub invariant_of-result : goal.invariant_of-result
invariant_of-result c =
    rw (c.new.ensures.items, c.new-2.ensures.items)
    (IsWhole-none _ c.in_ok-new.field-0 refl c.in_ok-new.ensures.sizes c.in_ok-new.ensures.done)
