use Rattle.std.proofs.Common.{◌∙◌, ap}
use Rattle.dl_moments.proofs.Cuts.{length-lanes_from}
use Rattle.dl_mode.specs.Since.{short_since}
use Rattle.dl_mode.specs.ThreadSizes.{ThreadSizes, sizes_from}
use Rattle.dl_mode.proofs.ShortLists.{sizes_from-cut}
use Rattle.dl_mode.proofs.thread_sizes.ThreadSizes.forget.Goals as goal

pub invariant_of-self : goal.invariant_of-self
invariant_of-self c = rw c.forget.ensures.lanes (length-lanes_from c.args.done.now 0 c.self.inside.sizes.lanes ∙ c.self.invariant)

pub returns-clause-sizes : goal.returns-clause-sizes
returns-clause-sizes c =
    ap (sizes_from 0) c.forget.ensures.lanes
    ∙ (sizes_from-cut c.args.done.now c.self.inside.sizes.lanes ∙ ap (λ (t : ThreadSizes). short_since c.args.done.now t.sizes) c.self.view_is)
