use Rattle.std.proofs.Common.{arith}
use Rattle.std.proofs.lemmas.List.{length-take}
use Rattle.dl_entry.specs.Numbers.{most_threads}
use Rattle.dl_mode.proofs.picolog.PicoLogMode.head.Goals as goal

pub turn-requires : goal.turn-requires
turn-requires c = rw c.named.ensures (omega (arith, length-take most_threads c.args.live.now))
