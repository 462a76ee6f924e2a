use Rattle.std.proofs.Common.{◌≤◌, drop}
use Rattle.dl_strata.specs.Checking.{conflicts}
use Rattle.dl_strata.specs.Conflicts.{IsBetween}
use Rattle.dl_strata.proofs.checking.check_conflicts.Given as goal

-- the check has come to the strata that are left
abbrev pub invariant-loop-stratum : goal.invariant-loop-stratum
invariant-loop-stratum l = record {
  strata : l.checker.touches.stratum ≤ l.stratum-index;
  left : IsBetween (conflicts l.fn.v l.fn.image.bytes l.fn.image.entry) l.checker.player l.checker.touches.touches (drop l.stratum-index l.strata);
}
