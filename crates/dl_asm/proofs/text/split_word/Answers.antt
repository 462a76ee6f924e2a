use Rattle.std.proofs.Common.{rules, tests, ◌+◌, ◌∙◌, ap, sym, take, drop, length, length-drop, arith}
use Rattle.std.proofs.lemmas.List.{take_all, drop_all}
use Rattle.std.proofs.lemmas.Iterator.{YieldsList-from_slice}
use Rattle.std.proofs.lemmas.Iterator.Search.{position_from_yields_List}
use Rattle.dl_asm.specs.Characters.{is_blank}
use Rattle.dl_asm.proofs.Texts.Places.{place-none, place-some}
use Rattle.dl_asm.proofs.text.split_word.Goals as goal

pub returns-in-Some-clause-word : goal.returns-in-Some-clause-word
returns-in-Some-clause-word c =
    let text = c.args.text.now in
    let place = position_from_yields_List is_blank _ _ _ c.in-Some.ensures.ran (YieldsList-from_slice text c.iter.ensures.rest) (λ x b q k. search (rules, tests)) in
    ap (λ n. take n text) (place-some is_blank text c.in-Some.place place).0

pub returns-in-Some-clause-rest : goal.returns-in-Some-clause-rest
returns-in-Some-clause-rest c =
    let text = c.args.text.now in
    let place = position_from_yields_List is_blank _ _ _ c.in-Some.ensures.ran (YieldsList-from_slice text c.iter.ensures.rest) (λ x b q k. search (rules, tests)) in
    let at = place-some is_blank text c.in-Some.place place in
    take_all _ _ (omega (arith, length-drop (c.in-Some.place + 1) text)) ∙ ap (λ n. drop (n + 1) text) at.0

pub returns-in-None-clause-word : goal.returns-in-None-clause-word
returns-in-None-clause-word c =
    let text = c.args.text.now in
    let place = position_from_yields_List is_blank _ _ _ c.in-None.ensures.ran (YieldsList-from_slice text c.iter.ensures.rest) (λ x b q k. search (rules, tests)) in
    let at = place-none is_blank text place in
    sym (take_all _ text (omega (arith, at)))

pub returns-in-None-clause-rest : goal.returns-in-None-clause-rest
returns-in-None-clause-rest c =
    let text = c.args.text.now in
    let place = position_from_yields_List is_blank _ _ _ c.in-None.ensures.ran (YieldsList-from_slice text c.iter.ensures.rest) (λ x b q k. search (rules, tests)) in
    let at = place-none is_blank text place in
    take_all _ _ (omega (arith, length-drop (length text) text)) ∙ drop_all (length text) text (omega arith) ∙ sym (drop_all _ text (omega (arith, at)))
