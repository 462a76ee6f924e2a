use Rattle.std.proofs.Common.{◌≡◌, ℕ, ◌*◌, ◌/◌, replicate, rules, ap, ◌∙◌, arith}
use Rattle.dl_sig.specs.Banks.{no_place, of_words}
use Rattle.dl_sig.proofs.Bits.{words_none}
use Rattle.dl_sig.proofs.bank.Bank.new.Goals as goal

pub returns : goal.returns
returns c =
    let n = c.args.size / 32 in
    let items : c.in_ok-vec.field-0.items ≡ replicate {A = ℕ} n 0 = search rules in
    let whole : 32 * n ≡ c.args.size = let r = c.requires in omega arith in
    ap of_words items ∙ words_none n ∙ ap no_place whole
