use Rattle.std.proofs.Common.{◌≡◌, ℕ, replicate, length, rules, ap, ◌∙◌}
use Rattle.dl_sig.specs.Banks.{Places, no_place, of_words}
use Rattle.dl_sig.proofs.Bits.{words_none}
use Rattle.dl_sig.proofs.bank.Bank.clear.Goals as goal

pub returns : goal.returns
returns c =
    let n = length c.self.inside.words.items in
    let items : c.fill.new.self.items ≡ replicate {A = ℕ} n 0 = search rules in
    ap of_words items ∙ words_none n ∙ ap (λ (b : Places). no_place b.size) c.self.view_is
