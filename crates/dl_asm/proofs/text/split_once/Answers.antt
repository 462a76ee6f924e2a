use Rattle.std.proofs.Common.{rules, tests, ◌+◌, ◌∙◌, eqb, ap, take, drop, length-drop, arith}
use Rattle.std.proofs.lemmas.List.{take_all}
use Rattle.std.proofs.lemmas.Iterator.{YieldsList-from_slice}
use Rattle.std.proofs.lemmas.Iterator.Search.{position_from_yields_List}
use Rattle.dl_asm.proofs.Texts.Places.{place-none, place-some}
use Rattle.dl_asm.proofs.text.split_once.Goals as goal

pub returns-in_err-place : goal.returns-in_err-place
returns-in_err-place c =
    let place = position_from_yields_List (λ b. eqb b c.args.byte) _ _ _ c.in_err-place.ensures.ran (YieldsList-from_slice c.args.text.now c.iter.ensures.rest) (λ x b q k. search (rules, tests)) in
    rw c.from_residual.ensures (place-none (λ b. eqb b c.args.byte) c.args.text.now place)

pub returns : goal.returns
returns c =
    let place = position_from_yields_List (λ b. eqb b c.args.byte) _ _ _ c.in_ok-place.ensures.ran (YieldsList-from_slice c.args.text.now c.iter.ensures.rest) (λ x b q k. search (rules, tests)) in
    let at = place-some (λ b. eqb b c.args.byte) c.args.text.now c.in_ok-place.place place in
    let text = c.args.text.now in
    (at.1, ap (λ n. take n text) at.0, take_all _ _ (omega (arith, length-drop (c.in_ok-place.place + 1) text)) ∙ ap (λ n. drop (n + 1) text) at.0)
