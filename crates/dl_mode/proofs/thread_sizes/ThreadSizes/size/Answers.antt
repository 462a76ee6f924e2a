use Rattle.std.proofs.Common.{◌∙◌}
use Rattle.dl_mode.proofs.ShortLists.{size_among-at}
use Rattle.dl_mode.proofs.thread_sizes.ThreadSizes.size.Goals as goal

pub returns : goal.returns
returns c =
    rw (← c.self.view_is) (c.at.ensures ∙ size_among-at c.self.inside.sizes.lanes c.args.thread c.args.index)
