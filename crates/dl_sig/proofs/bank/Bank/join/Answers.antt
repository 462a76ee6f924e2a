use Rattle.std.proofs.Common.{ap, ◌∙◌, arith}
use Rattle.std.proofs.lemmas.List.{with_items_is}
use Rattle.dl_sig.specs.Banks.{of_words, with_places}
use Rattle.dl_sig.proofs.Bits.{same_words}
use Rattle.dl_sig.proofs.bank.Bank.join.Goals as goal

pub join-requires : goal.join-requires
join-requires c =
    let same = same_words c.self.inside.words.items c.other.inside.words.items _ _ c.self.view_is c.other.view_is c.requires in
    let a = c.deref_mut.ensures.len in
    let b = c.deref.ensures.len in
    omega arith

pub returns : goal.returns
returns c =
    ap of_words (with_items_is c.self.inside.words c.join.new.words (let a = c.join.auto.words in let b = c.deref_mut.ensures.len in omega arith))
    ∙ c.join.ensures
    ∙ (λ i. with_places (of_words (c.deref.ensures.value i)) (of_words (c.deref_mut.ensures.value i)))
    ∙ (λ i. with_places (c.other.view_is i) (c.self.view_is i))
