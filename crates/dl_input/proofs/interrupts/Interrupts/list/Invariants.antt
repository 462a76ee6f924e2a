use Rattle.std.proofs.Common.{◌≡◌, ◌++◌, map, drop}
use Rattle.dl_input.specs.Tracked.{tracked_from, interrupt_of}
use Rattle.dl_input.proofs.interrupts.Interrupts.list.Given as goal

abbrev pub invariant-loop-thread : goal.invariant-loop-thread
invariant-loop-thread l =
    l.list ++ map interrupt_of (tracked_from l.thread (drop l.thread l.self-inside.moments.lanes)) ≡ map interrupt_of l.self.entries
