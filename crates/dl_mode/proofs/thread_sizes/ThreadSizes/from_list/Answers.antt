use Rattle.std.proofs.Common.{◌<◌, length, get_or, arith, ◌∙◌}
use Rattle.std.proofs.lemmas.List.{length-set, get_or_default}
use Rattle.spec_log.specs.declared.sizes.ShortSize.{ShortSize}
use Rattle.dl_moments.specs.Marks.{with_mark}
use Rattle.dl_mode.proofs.ShortLists.{insert-put, insert-next}
use Rattle.dl_mode.proofs.thread_sizes.ThreadSizes.from_list.Goals as goal

pub loop-short-preserved : goal.loop-short-preserved
loop-short-preserved c =
    let list = c.args.list.now in
    let k = c.loop-short.short-index in
    let lanes = c.loop-short.sizes.lanes in
    let none : ShortSize = record { thread = 0; index = 0; size = 0 } in
    let x : ShortSize = get_or list k none in
    let i = c.loop-short.invariant in
    let h : k < length list = omega arith in
    let good = c.requires.each k none h in
    let within : x.thread < length lanes = omega (arith, good.0, i.0) in
    rw c.in_ok-put.ensures.ok (
      length-set lanes x.thread (with_mark x.index x.size (get_or lanes x.thread _)) ∙ i.0,
      insert-put lanes x.thread x.index x.size within ∙ (rw i.1 (insert-next list c.requires.rising k x h (get_or_default list k none x h))),
    )
