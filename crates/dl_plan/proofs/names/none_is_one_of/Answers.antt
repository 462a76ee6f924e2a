use Rattle.std.proofs.Common.{◌∙◌, sym, not, rules, tests}
use Rattle.std.proofs.lemmas.Iterator.{YieldsList-from_slice}
use Rattle.std.proofs.lemmas.Iterator.Search.{all_from_yields_List}
use Rattle.std.proofs.lemmas.List.Folds.{list_all-map}
use Rattle.dl_plan.specs.Names.{is_one_of}
use Rattle.dl_plan.specs.Views.{texts}
use Rattle.dl_plan.proofs.names.none_is_one_of.Goals as goal

pub returns : goal.returns
returns c =
    all_from_yields_List (λ n. not (is_one_of (texts c.args.others.now) n.now)) _ _ _ c.all.ensures.ran (YieldsList-from_slice c.args.names.now cc) (λ x b q k. search (rules, tests))
    ∙ sym (list_all-map (λ n. not (is_one_of (texts c.args.others.now) n)) (λ n. n.now) c.args.names.now)
