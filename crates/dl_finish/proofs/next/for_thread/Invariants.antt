use Rattle.std.proofs.Common.{◌≡◌, ℕ, ◌<◌, None}
use Rattle.dl_finish.specs.Turns.{on_core}
use Rattle.dl_finish.proofs.next.for_thread.Given as goal

abbrev pub invariant-loop-core : goal.invariant-loop-core
invariant-loop-core g l = (j : ℕ) → j < l.core → on_core l.machine j l.sphere l.thread ≡ None
