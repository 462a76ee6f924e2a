use Rattle.std.proofs.Common.{rules, tests}
use Rattle.std.proofs.lemmas.Iterator.{YieldsList-from_slice}
use Rattle.std.proofs.lemmas.Iterator.Search.{all_from_yields_List}
use Rattle.std.specs.List.{IsFirstAndRest}
use Rattle.dl_asm.specs.Characters.{continues_mnemonic}
use Rattle.dl_asm.proofs.text.is_mnemonic.Goals as goal

pub returns-then-begins_mnemonic : goal.returns-then-begins_mnemonic
returns-then-begins_mnemonic c =
    let all = all_from_yields_List continues_mnemonic _ _ c.all.result c.all.ensures.ran (YieldsList-from_slice c.in-Some.rest.now c.iter.ensures.rest) (λ x b q k. search (rules, tests)) in
    let first : IsFirstAndRest c.args.text.now c.in-Some.first.now c.in-Some.rest.now = c.in-Some.ensures.cases in
    rw (first.0, ← c.begins_mnemonic.ensures, c.if-begins_mnemonic.true) all
