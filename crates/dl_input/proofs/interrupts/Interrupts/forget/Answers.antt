use Rattle.std.proofs.Common.{nat_le, slice_index, ◌∙◌, ap, arith}
use Rattle.dl_input.specs.Tracked.{Noted, tracked_from, tracked_since}
use Rattle.dl_moments.proofs.Cuts.{length-lanes_from, length-filter-few}
use Rattle.dl_input.proofs.TrackedLists.{tracked_from-cut}
use Rattle.dl_input.proofs.interrupts.Interrupts.forget.Goals as goal

pub invariant_of-self : goal.invariant_of-self
invariant_of-self c =
    let lanes = c.self.inside.moments.lanes in
    let starts = c.args.starts.now in
    let fewer = length-filter-few (λ s. nat_le (slice_index starts s.thread) s.index) (tracked_from 0 lanes) in (
      rw c.forget.ensures.lanes (length-lanes_from starts 0 lanes ∙ c.self.invariant.0),
      rw (c.forget.ensures.lanes, tracked_from-cut starts lanes) (omega (arith, fewer, c.self.invariant.1)),
    )

pub returns-clause-entries : goal.returns-clause-entries
returns-clause-entries c =
    ap (tracked_from 0) c.forget.ensures.lanes
    ∙ (tracked_from-cut c.args.starts.now c.self.inside.moments.lanes
    ∙ ap (λ (n : Noted). tracked_since c.args.starts.now n.entries) c.self.view_is)
