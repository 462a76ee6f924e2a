use Rattle.std.proofs.Common.{◌≡◌, ◌<◌, ◌*◌, ◌/◌, ◌%◌, ◌^◌, ℕ, nat_eq, bit_and, length, sym, ap, ◌∙◌, subst, arith}
use Rattle.std.proofs.lemmas.List.{get_or_default}
use Rattle.std.proofs.lemmas.Nat.Bits.{shr_and_one}
use Rattle.std.specs.FinSet as set
use Rattle.std.specs.Int.{bit_at}
use Rattle.dl_sig.specs.Banks.{Places, has_bit}
use Rattle.dl_sig.proofs.Sets.{member_at}
use Rattle.dl_sig.proofs.bank.Bank.has.Goals as goal

pub returns : goal.returns
returns c =
    let ws = c.self.inside.words.items in
    let p = c.args.place in
    let within : p < 32 * length ws = subst (λ (b : Places). p < b.size) (sym c.self.view_is) c.requires in
    let word = c.index.ensures ∙ get_or_default ws (p / 32) c.index.result.now 0 (omega arith) in
    subst (λ (b : Places). nat_eq (bit_and (c.index.result.now / 2 ^ (p % 32)) 1) 1 ≡ set.contains b.set p) c.self.view_is
    (ap (λ (b : ℕ). nat_eq b 1) (shr_and_one c.index.result.now (p % 32))
    ∙ ap (λ (w : ℕ). nat_eq (bit_at w (p % 32)) 1) word
    ∙ member_at (has_bit ws) (32 * length ws) p within)
