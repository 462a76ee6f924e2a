use Rattle.std.proofs.Common.{◌+◌, ◌%◌, ap, sym, subst, arith, set}
use Rattle.rand_pcg.specs.Lcg.{Lcg}
use Rattle.dl_dev.proofs.Filling.{IsFilled, none_filled, one_filled}
use Rattle.dl_dev.proofs.random.fill.Goals as goal

pub loop-i-init : goal.loop-i-init
loop-i-init c = none_filled _ _

pub loop-i-preserved : goal.loop-i-preserved
loop-i-preserved c =
    let word = c.next_word.ensures in
    let filled = one_filled c.args.words.now c.loop-i.i c.loop-i.into c.loop-i.words (c.next_word.result % 256) c.loop-i.invariant (omega arith) (ap (λ p. p.0 % 256) word) in
    subst (λ (g : Lcg). IsFilled c.args.words.now (c.loop-i.i + 1) (set c.loop-i.into c.loop-i.i (c.next_word.result % 256)) g) (sym (ap (λ p. p.1) word)) filled
