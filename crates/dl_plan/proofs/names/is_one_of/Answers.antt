use Rattle.std.proofs.Common.{◌∙◌, sym, bytes_eq, rules, tests}
use Rattle.std.proofs.lemmas.Iterator.{YieldsList-from_slice}
use Rattle.std.proofs.lemmas.Iterator.Search.{any_from_yields_List}
use Rattle.dl_plan.proofs.Texts.{list_any-map}
use Rattle.dl_plan.proofs.names.is_one_of.Goals as goal

pub returns : goal.returns
returns c =
    any_from_yields_List (λ n. bytes_eq n.now c.args.name.now) _ _ _ c.any.ensures.ran (YieldsList-from_slice c.args.others.now cc) (λ x b q k. search (rules, tests))
    ∙ sym (list_any-map (λ n. bytes_eq n c.args.name.now) (λ n. n.now) c.args.others.now)
