use Rattle.std.proofs.Common.{ℕ, ◌<◌, ◌*◌, ◌/◌, ◌%◌, ◌^◌, bit_or, set, length, sym, ap, ◌∙◌, subst, arith}
use Rattle.std.proofs.lemmas.List.{get_or_default}
use Rattle.dl_sig.specs.Banks.{Places, of_words, with_place}
use Rattle.dl_sig.proofs.Bits.{words_set}
use Rattle.dl_sig.proofs.bank.Bank.set.Goals as goal

pub returns : goal.returns
returns c =
    let ws = c.self.inside.words.items in
    let p = c.args.place in
    let within : p < 32 * length ws = subst (λ (b : Places). p < b.size) (sym c.self.view_is) c.requires in
    let word = c.index_mut.ensures.value ∙ get_or_default ws (p / 32) c.index_mut.result.now 0 (omega arith) in
    ap (λ (w : ℕ). of_words (set ws (p / 32) (bit_or w (1 * 2 ^ (p % 32) % 2 ^ 32)))) word
    ∙ words_set ws p within
    ∙ ap (with_place p) c.self.view_is
