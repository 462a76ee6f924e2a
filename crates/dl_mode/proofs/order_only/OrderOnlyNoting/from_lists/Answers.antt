use Rattle.dl_mode.proofs.Nothing.{AreAmong-none}
use Rattle.dl_mode.proofs.order_only.OrderOnlyNoting.from_lists.Goals as goal

pub loop-actor-init : goal.loop-actor-init
loop-actor-init c =
    (c.in_ok-short.ensures.sizes, c.in_ok-short.ensures.done, AreAmong-none c.in_ok-short.short.done 0 c.in_ok-short.ensures.done)
