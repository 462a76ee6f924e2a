use Rattle.std.proofs.Common.{sym, arith}
use Rattle.std.proofs.lemmas.List.{take_all}
use Rattle.dl_entry.specs.Numbers.{most_threads}
use Rattle.dl_mode.proofs.picolog.named.Goals as goal

pub returns-in-None : goal.returns-in-None
returns-in-None c = sym (take_all most_threads c.args.live.now (omega (arith, c.in-None.ensures.lookup)))
