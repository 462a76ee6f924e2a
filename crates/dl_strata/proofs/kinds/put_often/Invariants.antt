use Rattle.std.proofs.Common.{◌≡◌, ◌++◌}
use Rattle.std.specs.Prelude.{replicate}
use Rattle.dl_strata.proofs.kinds.put_often.Given as goal

-- so often it was put
abbrev pub invariant-loop : goal.invariant-loop
invariant-loop l = l.kinds ≡ l.initial.kinds ++ replicate l.counter l.kind
