use Rattle.std.proofs.Common.{◌∙◌, sym, rules, tests}
use Rattle.std.proofs.lemmas.Iterator.{YieldsList-from_slice}
use Rattle.std.proofs.lemmas.Iterator.Search.{all_from_yields_List}
use Rattle.std.proofs.lemmas.List.Folds.{list_all-map}
use Rattle.dl_plan.specs.declared.plan.Sphere.{Sphere}
use Rattle.dl_plan.specs.Plans.{can_have}
use Rattle.dl_plan.specs.Values.{SphereValues, role_view, sphere_view}
use Rattle.dl_plan.proofs.chunks.has_good_chunk.Goals as goal

pub returns : goal.returns
returns c =
    all_from_yields_List (λ (s : Sphere). can_have c.args.plan.now.sizes.chunk (role_view s.role)) _ _ _ c.all.ensures.ran (YieldsList-from_slice c.args.plan.now.spheres.items cc) (λ x b q k. search (rules, tests))
    ∙ sym (list_all-map (λ (s : SphereValues). can_have c.args.plan.now.sizes.chunk s.role) sphere_view c.args.plan.now.spheres.items)
