use Rattle.std.proofs.Common.{◌<◌, length, arith, refl, get_or}
use Rattle.dl_mode.proofs.ShortLists.{insert-put}
use Rattle.dl_mode.proofs.thread_sizes.ThreadSizes.note.Goals as goal
use Rattle.dl_mode.proofs.thread_sizes.ThreadSizes.note.Goals.{then-short+in_ok-put, else-short}

pub returns-clause-sizes : goal.returns-clause-sizes
returns-clause-sizes c =
    let lanes = c.self.inside.sizes.lanes in
    let t = c.in-Thread.thread in
    let within : t < length lanes = omega (arith, c.self.invariant, rw c.in-Thread.is at c.requires.actor) in
    rw (← c.self.view_is, c.in-Thread.is)
    (elim c.if-short.branch [
      | then-short+in_ok-put w ↦ rw (w.self-inside-is, w.if-short.true, w.in_ok-put.ensures.ok, c.from.ensures)
          (insert-put lanes t (get_or c.self.inside.done t 0) c.args.size within)
      | else-short w ↦ rw (w.self-inside-is, w.if-short.false) refl
    ])
