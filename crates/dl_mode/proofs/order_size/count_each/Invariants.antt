use Rattle.std.proofs.Common.{◌≡◌, fold, take}
use Rattle.spec_log.specs.Noting.{done_with}
use Rattle.dl_mode.proofs.order_size.count_each.Given as goal

abbrev pub invariant-loop-actor : goal.invariant-loop-actor
invariant-loop-actor l = l.counts ≡ fold done_with l.fn.counts (take l.actor-index l.actors)
