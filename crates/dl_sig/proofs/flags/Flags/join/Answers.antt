use Rattle.std.proofs.Common.{◌≡◌, ◌<◌, ℕ, suc, ◌+◌, Bool, false, ◌||◌, List, length, get_or, set, sym, ap, ◌∙◌, arith}
use Rattle.std.proofs.lemmas.List.{get_or_default}
use Rattle.dl_sig.specs.Banks.{Places, of_flags, with_places}
use Rattle.dl_sig.proofs.Flagged.{flags_joined}
use Rattle.dl_sig.proofs.Merged.{merged_to, none_merged, all_merged, merge_one, length-merged_to}
use Rattle.dl_sig.proofs.flags.Flags.join.Goals as goal

pub loop-i-init : goal.loop-i-init
loop-i-init c = none_merged ◌||◌ c.self.inside.flags.items c.other.inside.flags.items

pub loop-i-preserved : goal.loop-i-preserved
loop-i-preserved c =
    let xs = c.self.inside.flags.items in
    let ys = c.other.inside.flags.items in
    let zs = c.loop-i.self-inside.flags.items in
    let i = c.loop-i.i in
    let same : length ys ≡ length xs = ap (λ (b : Places). b.size) c.other.view_is ∙ c.requires ∙ sym (ap (λ (b : Places). b.size) c.self.view_is) in
    let long : length zs ≡ length xs = ap length c.loop-i.invariant ∙ length-merged_to ◌||◌ i xs ys in
    let l : i < length xs = omega arith in
    let here : c.index_mut.result.now ≡ get_or zs i false = c.index_mut.ensures.value ∙ get_or_default zs i c.index_mut.result.now false (omega arith) in
    let there : c.index.result.now ≡ get_or ys i false = c.index.ensures ∙ get_or_default ys i c.index.result.now false (omega arith) in
    let next : suc i ≡ i + 1 = omega arith in
    (λ j. set zs i (here j || there j))
    ∙ ap (λ (fs : List Bool). set fs i (get_or fs i false || get_or ys i false)) c.loop-i.invariant
    ∙ merge_one ◌||◌ i xs ys false same l
    ∙ ap (λ (n : ℕ). merged_to ◌||◌ n xs ys) next

pub returns : goal.returns
returns c =
    let xs = c.self.inside.flags.items in
    let ys = c.other.inside.flags.items in
    let same : length ys ≡ length xs = ap (λ (b : Places). b.size) c.other.view_is ∙ c.requires ∙ sym (ap (λ (b : Places). b.size) c.self.view_is) in
    ap of_flags (c.loop-i.invariant ∙ all_merged ◌||◌ xs ys c.loop-i.i same (omega arith))
    ∙ flags_joined xs ys same
    ∙ (λ i. with_places (c.other.view_is i) (c.self.view_is i))
