use Rattle.dl_mode.proofs.SizeLookups.{HasFirst}
use Rattle.dl_mode.proofs.order_size.OrderAndSizeNoting.from_lists.Given as goal

abbrev pub invariant-loop-i : goal.invariant-loop-i
invariant-loop-i l = HasFirst l.lists.s l.i l.order l.sizes l.log.kept
