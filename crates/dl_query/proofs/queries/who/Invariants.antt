use Rattle.std.proofs.Common.{◌≡◌, drop}
use Rattle.std.specs.Option.{option_or}
use Rattle.spec_query.specs.Queries.{who}
use Rattle.dl_query.proofs.queries.who.Given as goal

-- the last one of the stores to come, or else the last one so far, is the last of all
abbrev pub invariant-loop-store : goal.invariant-loop-store
invariant-loop-store l = option_or (who (drop l.store-index l.store-items) l.addr l.i) l.last ≡ who l.store-items l.addr l.i
