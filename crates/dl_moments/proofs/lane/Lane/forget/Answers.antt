use Rattle.std.proofs.Common.{nat_le, ◌∙◌}
use Rattle.std.proofs.lemmas.Bool.{le-leb, lt-leb}
use Rattle.dl_moments.proofs.Cuts.{drop-filter}
use Rattle.dl_moments.proofs.lane.Lane.forget.Goals as goal

pub returns-clause-marks : goal.returns-clause-marks
returns-clause-marks g c =
    let cut = drop-filter (λ m. nat_le c.args.start m.index) c.deref.result.now c.lowest-place.result c.lowest-place.ensures.within
    (λ k d h. lt-leb _ _ (c.lowest-place.ensures.below k d h)) (λ k d h l. le-leb _ _ (c.lowest-place.ensures.above k d h l)) in
    rw (← c.self.view_is) (c.drop-drain.ensures.items ∙ (c.drain.ensures.kept ∙ rw c.deref.ensures.value at cut))
