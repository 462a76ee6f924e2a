use Rattle.std.proofs.Common.{arith}
use Rattle.std.proofs.lemmas.List.{length_push}
use Rattle.dl_moments.proofs.Lanes.{empty_lane}
use Rattle.dl_moments.proofs.moments.Moments.new.Goals as goal

pub loop-preserved : goal.loop-preserved
loop-preserved g c =
    let lanes = c.loop.lanes.items in
    rw c.in_ok-push.ensures.items
    (omega (arith, length_push lanes c.new.result, c.loop.invariant.0), empty_lane lanes c.loop.counter c.new.result c.loop.invariant.1 c.new.ensures)
