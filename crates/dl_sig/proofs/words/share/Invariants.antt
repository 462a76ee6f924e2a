use Rattle.std.proofs.Common.{◌≡◌, ◌*◌}
use Rattle.dl_sig.specs.Words.{share}
use Rattle.dl_sig.proofs.Lanes.{share_from}
use Rattle.dl_sig.proofs.words.share.Given as goal

-- what is left shares a bit if the whole does
abbrev pub invariant-loop-k : goal.invariant-loop-k
invariant-loop-k l = share_from l.left l.right (8 * l.k) ≡ share l.left l.right

abbrev pub invariant-loop-i : goal.invariant-loop-i
invariant-loop-i l = share_from l.left l.right l.i ≡ share l.left l.right
