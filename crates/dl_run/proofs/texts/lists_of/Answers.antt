use Rattle.std.proofs.Common.{◌≡◌, List, [], ◌∷◌, ◌++◌, map, refl, ap, ◌∙◌}
use Rattle.std.specs.Prelude.{flat_map, Vec}
use Rattle.std.specs.Global.{Global}
use Rattle.dl_entry.specs.declared.Commit.{Commit}
use Rattle.dl_kernel.specs.InOrder.{joined}
use Rattle.dl_run.proofs.texts.lists_of.Goals as goal

all-in : (lists : List (Vec Commit Global)) → flat_map (λ list. list.items) lists ≡ joined (map (λ list. list.items) lists)
all-in [] = refl
all-in (list ∷ lists) = ap (λ (cs : List Commit). list.items ++ cs) (all-in lists)

pub returns : goal.returns
returns c =
    let lists = all-in c.by_thread.result.now ∙ ap joined c.by_thread.ensures in
    λ i. c.whole.ensures i ++ lists i
