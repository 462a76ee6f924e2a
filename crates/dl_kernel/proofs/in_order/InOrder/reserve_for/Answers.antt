use Rattle.std.proofs.Common.{suc, ◌+◌, List, ◌++◌, length, ◌∙◌, ap}
use Rattle.dl_entry.specs.declared.Commit.{Commit}
use Rattle.dl_kernel.specs.InOrder.{end_of, listed}
use Rattle.dl_kernel.proofs.in_order.InOrder.reserve_for.Goals as goal

pub returns-clause-same : goal.returns-clause-same
returns-clause-same c =
    let whole = c.self.inside.whole.items in
    record {
      all = ap (λ (xs : List Commit). whole ++ xs) c.reserve_list.ensures.all ∙ ap listed c.self.view_is ∙ c.reserve.ensures.same.all;
      ends =
          λ k. ap (λ (xs : List Commit). length whole + length xs) (c.reserve_list.ensures.same (suc k))
          ∙ ap (end_of k) c.self.view_is ∙ c.reserve.ensures.same.ends k;
    }
