use Rattle.std.proofs.Common.{rules, tests}
use Rattle.std.proofs.lemmas.Iterator.{YieldsList-from_slice}
use Rattle.std.proofs.lemmas.Iterator.Search.{all_from_yields_List}
use Rattle.std.specs.List.{IsFirstAndRest}
use Rattle.dl_asm.specs.Characters.{continues_name}
use Rattle.dl_asm.proofs.text.is_name.Goals as goal

pub returns-then-begins_name : goal.returns-then-begins_name
returns-then-begins_name c =
    let all = all_from_yields_List continues_name _ _ c.all.result c.all.ensures.ran (YieldsList-from_slice c.in-Some.rest.now c.iter.ensures.rest) (λ x b q k. search (rules, tests)) in
    let first : IsFirstAndRest c.args.text.now c.in-Some.first.now c.in-Some.rest.now = c.in-Some.ensures.cases in
    rw (first.0, ← c.begins_name.ensures, c.if-begins_name.true) all
