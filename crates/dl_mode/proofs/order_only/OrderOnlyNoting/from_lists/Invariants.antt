use Rattle.std.proofs.Common.{◌≡◌, take}
use Rattle.spec_log.specs.declared.sizes.Sizes.TheVariants.{Short}
use Rattle.dl_mode.specs.Counts.{AreAmong, counted}
use Rattle.dl_mode.proofs.order_only.OrderOnlyNoting.from_lists.Given as goal

abbrev pub invariant-loop-actor : goal.invariant-loop-actor
invariant-loop-actor l =
    (l.lists.sizes ≡ Short l.short.sizes) × (l.short.done ≡ counted (take l.actor-index l.actor-items)) × AreAmong l.actor-index l.short.done
