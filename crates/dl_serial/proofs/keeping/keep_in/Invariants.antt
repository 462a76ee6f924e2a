use Rattle.std.proofs.Common.{◌≡◌, ℕ, suc, ◌-◌, ◌*◌, ◌<◌, length, slice_get, Some}
use Rattle.spec_play.specs.States.{state_after}
use Rattle.spec_play.specs.Resuming.{HasDone}
use Rattle.dl_kernel.specs.States.{PlayState as State, state_in}
use Rattle.dl_serial.proofs.Laps.{IsAt}
use Rattle.dl_serial.proofs.keeping.keep_in.Given as goal

abbrev pub invariant-loop-next : goal.invariant-loop-next
invariant-loop-next g l = record {
  log : l.player.log ≡ l.log;
  at : IsAt l.log l.image.bytes l.image.entry l.next l.player.played;
  place : l.next ≡ length l.kept.items * l.every;
  each : (n : ℕ) (s : State) → slice_get l.kept.items n ≡ Some s → state_in s ≡ state_after l.log l.image.bytes l.image.entry (n * l.every);
  done : (n : ℕ) → n < length l.kept.items → HasDone l.log l.image.bytes l.image.entry (n * l.every);
}

abbrev pub decreases-loop-next : goal.decreases-loop-next
decreases-loop-next g l = suc l.log.count - l.next
