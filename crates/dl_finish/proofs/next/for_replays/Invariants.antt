use Rattle.std.proofs.Common.{◌≡◌, ℕ, ◌<◌, None}
use Rattle.spec_protocol.specs.machine.World.{sphere_at}
use Rattle.dl_finish.specs.Turns.{turn_in}
use Rattle.dl_finish.proofs.next.for_replays.Given as goal

abbrev pub invariant-loop-i : goal.invariant-loop-i
invariant-loop-i g l = (j : ℕ) → j < l.i → turn_in (sphere_at l.machine j).role ≡ None
