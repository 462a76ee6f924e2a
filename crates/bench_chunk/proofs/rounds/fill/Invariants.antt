use Rattle.std.proofs.Common.{◌≡◌}
use Rattle.bench_chunk.proofs.rounds.fill.Given as goal

abbrev pub invariant-loop : goal.invariant-loop
invariant-loop l = l.chunk.most ≡ l.fn.chunk.most
