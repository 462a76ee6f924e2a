use Rattle.std.proofs.Common.{arith}
use Rattle.dl_logio.proofs.Lengths.{log_short}
use Rattle.dl_logio.proofs.length.log_length.Goals as goal

pub overflow_add-length : goal.overflow_add-length
overflow_add-length c =
    let count = c.next-n.ensures.count in
    let counted = c.loop-writer.invariant.0 in
    let short = log_short c.args.log.now c.parts-parts.ensures.good in
    omega (arith, count, counted, short)
