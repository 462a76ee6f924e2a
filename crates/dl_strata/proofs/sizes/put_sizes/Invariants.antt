use Rattle.std.proofs.Common.{◌≡◌, ◌≤◌, ◌++◌, drop}
use Rattle.spec_strata.specs.Making.{chunk_sizes}
use Rattle.dl_strata.proofs.sizes.put_sizes.Given as goal

abbrev pub invariant-loop-commit : goal.invariant-loop-commit
invariant-loop-commit l = record {
  few : l.index ≤ l.commit-index;
  rest : l.sizes ++ chunk_sizes l.thread l.index (drop l.commit-index l.commits) ≡ l.fn.sizes ++ chunk_sizes l.thread 0 l.commits;
}
