use Rattle.std.proofs.Common.{◌≡◌, drop}
use Rattle.std.specs.List.{list_all}
use Rattle.dl_input.specs.Tracked.{tracked_from}
use Rattle.dl_input.proofs.interrupts.Interrupts.used.Given as goal

abbrev pub invariant-loop-thread : goal.invariant-loop-thread
invariant-loop-thread l =
    list_all (λ s. s.raised.taken) l.self.entries
    ≡ list_all (λ s. s.raised.taken) (tracked_from l.thread (drop l.thread l.self-inside.moments.lanes))
