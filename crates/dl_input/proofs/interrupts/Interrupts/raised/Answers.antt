use Rattle.std.proofs.Common.{◌∙◌}
use Rattle.dl_input.proofs.TrackedLists.{raised_at-at}
use Rattle.dl_input.proofs.interrupts.Interrupts.raised.Goals as goal

pub returns : goal.returns
returns c =
    rw (← c.self.view_is) (c.at.ensures ∙ raised_at-at c.self.inside.moments.lanes c.args.thread c.args.index)
