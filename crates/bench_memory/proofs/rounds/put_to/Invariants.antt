use Rattle.std.proofs.Common.{◌≡◌, length}
use Rattle.bench_memory.proofs.rounds.put_to.Given as goal

abbrev pub invariant-loop-page : goal.invariant-loop-page
invariant-loop-page l = length l.memory ≡ 16777216
