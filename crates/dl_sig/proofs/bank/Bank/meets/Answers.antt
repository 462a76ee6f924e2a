use Rattle.std.proofs.Common.{◌∙◌, arith}
use Rattle.spec_engine.specs.Signatures.{meets}
use Rattle.dl_sig.specs.Banks.{of_words}
use Rattle.dl_sig.proofs.Bits.{same_words}
use Rattle.dl_sig.proofs.bank.Bank.meets.Goals as goal

pub share-requires : goal.share-requires
share-requires c =
    let same = same_words c.self.inside.words.items c.other.inside.words.items _ _ c.self.view_is c.other.view_is c.requires in
    let a = c.deref.ensures.len in
    let b = c.deref-2.ensures.len in
    omega arith

pub returns : goal.returns
returns c =
    c.share.ensures
    ∙ (λ i. meets (of_words (c.deref.ensures.value i)).set (of_words (c.deref-2.ensures.value i)).set)
    ∙ (λ i. meets (c.self.view_is i).set (c.other.view_is i).set)
