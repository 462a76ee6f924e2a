use Rattle.std.proofs.Common.{◌∙◌, sym, rules, tests}
use Rattle.std.proofs.lemmas.Iterator.{YieldsList-from_slice}
use Rattle.std.proofs.lemmas.Iterator.Search.{all_from_yields_List}
use Rattle.std.proofs.lemmas.List.Folds.{list_all-map}
use Rattle.dl_plan.specs.declared.sphere.SphereEntries.{SphereEntries as SphereStruct}
use Rattle.dl_plan.specs.Roles.{has_good_epochs}
use Rattle.dl_plan.specs.Views.{entry_view}
use Rattle.dl_plan.proofs.epochs.have_good_epochs.Goals as goal

pub returns : goal.returns
returns c =
    all_from_yields_List (λ (s : SphereStruct). has_good_epochs (entry_view s)) _ _ _ c.all.ensures.ran (YieldsList-from_slice c.args.spheres.now cc) (λ x b q k. search (rules, tests))
    ∙ sym (list_all-map has_good_epochs entry_view c.args.spheres.now)
