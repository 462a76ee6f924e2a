use Rattle.std.proofs.Common.{◌≡◌, ◌<◌, true, false, length, sym, ap, ◌∙◌, subst, arith}
use Rattle.std.proofs.lemmas.List.{get_or_default}
use Rattle.spec_engine.specs.Signatures.{meets}
use Rattle.dl_sig.specs.Banks.{Places, of_flags}
use Rattle.dl_sig.proofs.Flagged.{flags_meet, flags_apart}
use Rattle.dl_sig.proofs.flags.Flags.meets.Goals as goal

pub returns-then-index-2 : goal.returns-then-index-2
returns-then-index-2 c =
    let xs = c.self.inside.flags.items in
    let ys = c.other.inside.flags.items in
    let i = c.loop-i.i in
    let same : length ys ≡ length xs = ap (λ (b : Places). b.size) c.other.view_is ∙ c.requires ∙ sym (ap (λ (b : Places). b.size) c.self.view_is) in
    let l : i < length xs = let t = c.loop-i-test.true in let e = c.len-i-end.ensures in omega arith in
    subst (λ (b : Places). true ≡ meets b.set c.args.other.now.set) c.self.view_is
    (subst (λ (b : Places). true ≡ meets (of_flags xs).set b.set) c.other.view_is
    (flags_meet xs ys same i l
    (sym (get_or_default xs i c.index.result.now false l) ∙ sym c.index.ensures ∙ c.if-index.true)
    (sym (get_or_default ys i c.index-then-index.result.now false (omega arith)) ∙ sym c.index-then-index.ensures ∙ c.if-index-2.true)))

pub returns : goal.returns
returns c =
    let xs = c.self.inside.flags.items in
    let ys = c.other.inside.flags.items in
    let same : length ys ≡ length xs = ap (λ (b : Places). b.size) c.other.view_is ∙ c.requires ∙ sym (ap (λ (b : Places). b.size) c.self.view_is) in
    subst (λ (b : Places). false ≡ meets b.set c.args.other.now.set) c.self.view_is
    (subst (λ (b : Places). false ≡ meets (of_flags xs).set b.set) c.other.view_is
    (flags_apart xs ys same (λ i l. c.loop-i.invariant i (let t = c.loop-i-test.false in let e = c.len-i-end.ensures in omega arith))))
