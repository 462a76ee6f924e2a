use Rattle.std.proofs.Common.{◌≡◌, ◌++◌, drop, map}
use Rattle.dl_entry.specs.declared.Actor.{Actor}
use Rattle.spec_strata.specs.Canonical.{rising}
use Rattle.dl_strata.proofs.canonical.put_chunks.Given as goal

-- what was put, and the threads that are left
abbrev pub invariant-loop-count : goal.invariant-loop-count
invariant-loop-count l =
    (l.thread ≡ l.count-index)
    × (l.order ++ map Actor.Thread (rising l.count-index (drop l.count-index l.counts)) ≡ l.initial.order ++ map Actor.Thread (rising 0 l.counts))
