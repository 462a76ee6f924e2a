use Rattle.std.proofs.Common.{◌∙◌, eqb, rules, tests, sym}
use Rattle.std.specs.List.{slice_split}
use Rattle.std.proofs.lemmas.Iterator.Search.{all_from_yields_List}
use Rattle.std.proofs.lemmas.Iterator.Splits.{YieldsList-from_slice_split}
use Rattle.std.proofs.lemmas.List.Folds.{list_all-map}
use Rattle.dl_asm.specs.Texts.{trimmed}
use Rattle.dl_asm.specs.Operands.{is_operand, are_operands}
use Rattle.dl_asm.proofs.operands.are_operands.Goals as goal

pub returns : goal.returns
unfolding are_operands
returns c =
    let text = c.args.text.now in
    let all = all_from_yields_List (λ t. is_operand (trimmed t)) _ _ c.all.result c.all.ensures.ran (YieldsList-from_slice_split _ (λ b. eqb b 44) text c.split.ensures.rest c.split.ensures.done c.split.ensures.closure (λ x b q k. search (rules, tests))) (λ x b q k. search (rules, tests)) in
    rw (← c.is_empty.ensures, c.if-is_empty.false) (all ∙ sym (list_all-map is_operand trimmed (slice_split (λ b. eqb b 44) text)))
