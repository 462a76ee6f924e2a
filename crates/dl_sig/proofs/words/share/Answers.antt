use Rattle.std.proofs.Common.{◌≡◌, suc, ◌+◌, ◌*◌, sym, ap, ◌∙◌, arith}
use Rattle.dl_sig.proofs.Bits.{words_share}
use Rattle.dl_sig.proofs.Lanes.{share_from, lanes_found, lanes_passed, word_found, word_passed, all_passed}
use Rattle.dl_sig.proofs.words.share.Goals as goal

pub loop-k-preserved : goal.loop-k-preserved
loop-k-preserved c =
    let ws = c.args.left.now in
    let vs = c.args.right.now in
    let k = c.loop-k.k in
    let next : 8 * (k + 1) ≡ 8 * k + 8 = omega arith in
    ap (share_from ws vs) next ∙ lanes_passed ws vs (8 * k) c.loop-k.invariant (sym c.share_lanes.ensures ∙ c.if-share_lanes.false)

pub returns-then-share_lanes : goal.returns-then-share_lanes
returns-then-share_lanes c =
    let ws = c.args.left.now in
    let vs = c.args.right.now in
    lanes_found ws vs (8 * c.loop-k.k) c.loop-k.invariant (sym c.share_lanes.ensures ∙ c.if-share_lanes.true) ∙ words_share ws vs c.requires c.type_inv.left

pub loop-i-preserved : goal.loop-i-preserved
loop-i-preserved c =
    let ws = c.args.left.now in
    let vs = c.args.right.now in
    let i = c.loop-i.i in
    let next : i + 1 ≡ suc i = omega arith in
    ap (share_from ws vs) next ∙ word_passed ws vs i (omega arith) (omega arith) c.loop-i.invariant c.if-left-i-ne0.false

pub returns-then-left-i-ne0 : goal.returns-then-left-i-ne0
returns-then-left-i-ne0 c =
    let ws = c.args.left.now in
    let vs = c.args.right.now in
    word_found ws vs c.loop-i.i (omega arith) (omega arith) c.loop-i.invariant c.if-left-i-ne0.true ∙ words_share ws vs c.requires c.type_inv.left

pub returns : goal.returns
returns c =
    let ws = c.args.left.now in
    let vs = c.args.right.now in
    all_passed ws vs c.loop-i.i (omega arith) c.loop-i.invariant ∙ words_share ws vs c.requires c.type_inv.left
