use Rattle.std.proofs.Common.{◌≡◌, ℕ, suc, ◌+◌, ◌*◌, List, get_or, set, bit_or, ap, ◌∙◌, arith}
use Rattle.std.specs.Simd.Lanes.{chunk, put_chunk}
use Rattle.dl_sig.specs.Banks.{of_words}
use Rattle.dl_sig.specs.Words.{joined}
use Rattle.dl_sig.proofs.Bits.{words_joined}
use Rattle.dl_sig.proofs.Merged.{merged_to, none_merged, all_merged, merge_one, merge_chunk}
use Rattle.dl_sig.proofs.words.join.Goals as goal

pub loop-k-init : goal.loop-k-init
loop-k-init c = none_merged bit_or c.args.words.now c.args.others.now

pub loop-k-preserved : goal.loop-k-preserved
loop-k-preserved c =
    let ws = c.args.words.now in
    let vs = c.args.others.now in
    let s : ℕ = 8 * c.loop-k.k in
    let next : 8 * c.loop-k.k + 8 ≡ 8 * (c.loop-k.k + 1) = omega arith in
    c.join_lanes.ensures
    ∙ ap (λ (xs : List ℕ). put_chunk s xs (joined (chunk s 8 xs) (chunk s 8 vs))) c.loop-k.invariant
    ∙ merge_chunk bit_or s 8 ws vs c.requires
    ∙ ap (λ (n : ℕ). merged_to bit_or n ws vs) next

pub loop-i-preserved : goal.loop-i-preserved
loop-i-preserved c =
    let ws = c.args.words.now in
    let vs = c.args.others.now in
    let i = c.loop-i.i in
    let next : suc i ≡ i + 1 = omega arith in
    ap (λ (xs : List ℕ). set xs i (bit_or (get_or xs i 0) (get_or vs i 0))) c.loop-i.invariant
    ∙ merge_one bit_or i ws vs 0 c.requires (omega arith)
    ∙ ap (λ (n : ℕ). merged_to bit_or n ws vs) next

pub returns : goal.returns
returns c =
    let ws = c.args.words.now in
    let vs = c.args.others.now in
    ap of_words (c.loop-i.invariant ∙ all_merged bit_or ws vs c.loop-i.i c.requires (omega arith)) ∙ words_joined ws vs c.requires
