use Rattle.std.proofs.Common.{◌≡◌, ◌-◌}
use Rattle.std.specs.Prelude.{replicate}
use Rattle.dl_strata.proofs.Checks.{Leads}
use Rattle.dl_strata.proofs.checker.Checker.check_thread.Given as goal

-- the chunks that are left
abbrev pub invariant-loop : goal.invariant-loop
invariant-loop l = record {
  strata : l.self.touches.stratum ≡ l.fn.self.touches.stratum;
  left : Leads l.fn.self l.self (replicate l.count l.thread) (replicate (l.count - l.counter) l.thread);
}
