use Rattle.std.proofs.Common.{arith}
use Rattle.dl_strata.proofs.Order.{put-next}
use Rattle.dl_strata.proofs.canonical.put_chunks.Goals as goal

pub loop-count-preserved : goal.loop-count-preserved
loop-count-preserved c =
    let was = c.loop-count.invariant in
    let thread = was.0 in (
      omega (arith, thread),
      put-next c.loop-count.count-index c.loop-count.thread 0 c.args.counts.now c.loop-count.order c.put_often.new.order _ thread
          (omega (arith, c.loop-count-test.true)) c.in_ok-put_often.ensures was.1,
    )
