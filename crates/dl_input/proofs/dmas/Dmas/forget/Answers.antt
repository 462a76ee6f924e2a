use Rattle.std.proofs.Common.{nat_le, ap, ◌∙◌}
use Rattle.std.proofs.lemmas.Bool.{le-leb, lt-leb}
use Rattle.dl_moments.proofs.Cuts.{drop-filter}
use Rattle.dl_input.specs.Dmas.{DmaList, dmas_from}
use Rattle.dl_input.proofs.dmas.Dmas.forget.Goals as goal

pub returns-clause-dmas : goal.returns-clause-dmas
returns-clause-dmas c =
    let cut = drop-filter (λ d. nat_le c.args.position d.position) c.deref.result.now c.lowest-place.result c.lowest-place.ensures.within
    (λ k d h. lt-leb _ _ (c.lowest-place.ensures.below k d h)) (λ k d h l. le-leb _ _ (c.lowest-place.ensures.above k d h l)) in
    c.drop-drain.ensures.items ∙ (c.drain.ensures.kept ∙ (rw c.deref.ensures.value at cut
    ∙ ap (λ (l : DmaList). dmas_from c.args.position l.dmas) c.self.view_is))
