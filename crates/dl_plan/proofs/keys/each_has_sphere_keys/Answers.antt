use Rattle.std.proofs.Common.{◌∙◌, sym, ap, map, rules, tests}
use Rattle.std.proofs.lemmas.Iterator.{YieldsList-from_slice}
use Rattle.std.proofs.lemmas.Iterator.Search.{all_from_yields_List}
use Rattle.std.proofs.lemmas.List.Folds.{list_all-map}
use Rattle.std.specs.List.{list_all}
use Rattle.toml.specs.View.{view}
use Rattle.toml.specs.declared.value.Value.{Value}
use Rattle.dl_plan.specs.Entries.{has_sphere_keys}
use Rattle.dl_plan.proofs.Documents.{list_of_items}
use Rattle.dl_plan.proofs.keys.each_has_sphere_keys.Goals as goal

pub returns : goal.returns
returns c =
    all_from_yields_List (λ (v : Value). has_sphere_keys (view v)) _ _ _ c.all.ensures.ran (YieldsList-from_slice c.deref.result.now cc) (λ x b q k. search (rules, tests))
    ∙ ap (list_all (λ (v : Value). has_sphere_keys (view v))) c.deref.ensures.value
    ∙ sym (list_all-map has_sphere_keys view c.args.items.now.items)
    ∙ ap (list_all has_sphere_keys) (sym (list_of_items (map view c.args.items.now.items)))
