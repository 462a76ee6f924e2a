-- Writing below the length commutes with cutting the row to its length.
use Rattle.std.proofs.Common.{arith}
use Rattle.std.proofs.Math.Seq.{take-set-lt}
use Rattle.std.proofs.lemmas.Grind.{common_steps}
use Rattle.dl_thread.proofs.row.Threads.set.Goals as goal

pub returns : goal.returns
returns c = grind (arith, common_steps, take-set-lt)
