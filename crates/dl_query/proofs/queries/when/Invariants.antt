use Rattle.std.proofs.Common.{◌≡◌, drop}
use Rattle.spec_query.specs.Queries.{change}
use Rattle.dl_query.proofs.queries.when.Given as goal

-- the first change is among the stores to come
abbrev pub invariant-loop-store : goal.invariant-loop-store
invariant-loop-store l = change (drop l.store-index l.store-items) l.addr l.value ≡ change l.store-items l.addr l.value
