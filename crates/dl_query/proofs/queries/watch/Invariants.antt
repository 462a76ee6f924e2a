use Rattle.std.proofs.Common.{◌≡◌, ◌++◌, drop}
use Rattle.spec_query.specs.Queries.{watch}
use Rattle.dl_query.proofs.queries.watch.Given as goal

-- with those of the stores to come, all are there
abbrev pub invariant-loop-store : goal.invariant-loop-store
invariant-loop-store l = l.lines ++ watch (drop l.store-index l.store-items) l.addr ≡ watch l.store-items l.addr
