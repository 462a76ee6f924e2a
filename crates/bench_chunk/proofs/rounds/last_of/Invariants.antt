use Rattle.std.proofs.Common.{◌≡◌}
use Rattle.bench_chunk.proofs.rounds.last_of.Given as goal

abbrev pub invariant-loop : goal.invariant-loop
invariant-loop l = l.chunk.most ≡ 4096
