use Rattle.std.proofs.Common.{◌≡◌, ◌++◌}
use Rattle.std.specs.Prelude.{replicate}
use Rattle.dl_strata.proofs.canonical.put_often.Given as goal

-- so often it was put
abbrev pub invariant-loop : goal.invariant-loop
invariant-loop l = l.order ≡ l.initial.order ++ replicate l.counter l.actor
