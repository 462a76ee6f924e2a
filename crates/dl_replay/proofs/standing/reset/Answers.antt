use Rattle.std.proofs.Common.{arith}
use Rattle.dl_replay.proofs.Standings.{zeros}
use Rattle.dl_replay.proofs.standing.reset.Goals as goal

pub returns-else-all-gt0 : goal.returns-else-all-gt0
returns-else-all-gt0 c = zeros c.args.numbers.now.items (omega (arith, c.requires, c.if-all-gt0.false))
