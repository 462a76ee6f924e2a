use Rattle.std.proofs.Common.{◌≡◌, length}
use Rattle.bench_memory.proofs.rounds.last_of.Given as goal

abbrev pub invariant-loop-round : goal.invariant-loop-round
invariant-loop-round l = (length l.memory ≡ 16777216) × (length l.last ≡ 16777216)
