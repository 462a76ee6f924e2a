use Rattle.std.specs.Simd.Lanes.{chunk}
use Rattle.dl_sig.proofs.Lanes.{fold_share}
use Rattle.dl_sig.proofs.words.share_lanes.Goals as goal

pub returns : goal.returns
returns c = fold_share (chunk c.args.start 8 c.args.left.now) (chunk c.args.start 8 c.args.right.now)
