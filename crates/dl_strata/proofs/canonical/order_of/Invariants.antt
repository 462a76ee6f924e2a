use Rattle.std.proofs.Common.{◌≡◌, take}
use Rattle.std.specs.List.{flat_map}
use Rattle.spec_strata.specs.Canonical.{order_of as order_in}
use Rattle.dl_strata.proofs.canonical.order_of.Given as goal

-- the actors of those so far
abbrev pub invariant-loop-run : goal.invariant-loop-run
invariant-loop-run l = l.order ≡ flat_map order_in (take l.run-index l.runs)
