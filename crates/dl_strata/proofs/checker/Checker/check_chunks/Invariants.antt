use Rattle.std.proofs.Common.{◌≡◌, drop}
use Rattle.spec_strata.specs.Canonical.{rising}
use Rattle.dl_strata.proofs.Checks.{Leads}
use Rattle.dl_strata.proofs.checker.Checker.check_chunks.Given as goal

-- the threads that are left
abbrev pub invariant-loop-count : goal.invariant-loop-count
invariant-loop-count l = record {
  thread : l.thread ≡ l.count-index;
  strata : l.self.touches.stratum ≡ l.fn.self.touches.stratum;
  left : Leads l.fn.self l.self (rising 0 l.counts) (rising l.count-index (drop l.count-index l.counts));
}
