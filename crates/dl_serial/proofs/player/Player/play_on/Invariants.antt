use Rattle.std.proofs.Common.{◌≡◌}
use Rattle.dl_serial.specs.Playing.{played_more}
use Rattle.dl_serial.proofs.player.Player.play_on.Given as goal

abbrev pub invariant-loop : goal.invariant-loop
invariant-loop g l = l.self ≡ played_more l.fn.self l.counter
