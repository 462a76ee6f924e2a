use Rattle.std.proofs.Common.{arith}
use Rattle.dl_replay.proofs.ready.add_counts.Goals as goal

pub overflow_add-len : goal.overflow_add-len
overflow_add-len c = omega (arith, c.len.ensures, c.args.all.now.ok.0, c.args.all.now.small, c.requires)
