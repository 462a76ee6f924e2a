use Rattle.std.proofs.Common.{◌≡◌, drop, slice_get}
use Rattle.dl_input.specs.Tracked.{tracked_from}
use Rattle.dl_input.proofs.interrupts.Interrupts.nth.Given as goal

abbrev pub invariant-loop-thread : goal.invariant-loop-thread
invariant-loop-thread l =
    slice_get l.self.entries l.i ≡ slice_get (tracked_from l.thread (drop l.thread l.self-inside.moments.lanes)) l.left
