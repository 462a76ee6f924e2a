use Rattle.std.proofs.Common.{rules, tests, ◌≡◌, not, drop, ap, ◌∙◌, arith, length-drop}
use Rattle.std.proofs.lemmas.Iterator.{YieldsList-from_slice}
use Rattle.std.proofs.lemmas.Iterator.Search.{position_from_yields_List}
use Rattle.std.proofs.lemmas.List.{take_all}
use Rattle.dl_asm.specs.Characters.{is_blank}
use Rattle.dl_asm.proofs.Texts.Places.{place-either}
use Rattle.dl_asm.proofs.text.after_blanks.Goals as goal

pub returns : goal.returns
returns c =
    let text = c.args.text.now in
    let place = position_from_yields_List (λ b. not (is_blank b)) _ _ c.position.result c.position.ensures.ran (YieldsList-from_slice text c.iter.ensures.rest) (λ x b q k. search (rules, tests)) in
    let start : c.unwrap_or-start.result ≡ _ = c.unwrap_or-start.ensures ∙ place-either (λ b. not (is_blank b)) text c.position.result place in
    take_all _ _ (omega (arith, length-drop c.unwrap_or-start.result text)) ∙ ap (λ n. drop n text) start
