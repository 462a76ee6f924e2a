use Rattle.std.proofs.Common.{◌∙◌}
use Rattle.dl_replay.proofs.Lookups.{interrupt-is}
use Rattle.dl_replay.proofs.lookup.Lookup.interrupt.Goals as goal

pub returns : goal.returns
returns g c =
    rw (← c.self.view_is) (c.at.ensures ∙ interrupt-is c.self.inside.interrupts.entries c.args.thread c.args.commits)
