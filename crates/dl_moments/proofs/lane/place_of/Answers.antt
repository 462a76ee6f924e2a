use Rattle.std.proofs.Common.{arith, ap, ◌∙◌}
use Rattle.std.proofs.lemmas.List.{get_or_default}
use Rattle.dl_moments.specs.declared.lane.Mark.{Mark}
use Rattle.dl_moments.proofs.Places.{stands, misses}
use Rattle.dl_moments.proofs.lane.place_of.Goals as goal
use Rattle.dl_moments.proofs.lane.place_of.Goals.{else-place-marks-via-then-place-marks+else-marks-place, else-place-marks-via-else-place-marks}

pub returns-then-marks-place : goal.returns-then-marks-place
returns-then-marks-place g c =
    let marks = c.args.marks.now in
    let place = c.lowest-place.result in
    stands c.args.index marks place c.if-place-marks.true c.lowest-place.ensures.below
    (λ d. ap (λ (m : Mark _). m.index) (get_or_default marks place d c.index-marks-place.result c.if-place-marks.true) ∙ c.if-marks-place.true)

pub returns-else-place-marks : goal.returns-else-place-marks
returns-else-place-marks g c =
    let marks = c.args.marks.now in
    let place = c.lowest-place.result in
    misses c.args.index marks place c.requires c.lowest-place.ensures.within c.lowest-place.ensures.below
    (elim c.else-place-marks.branch [
      | else-place-marks-via-then-place-marks+else-marks-place w ↦
          λ d h. let at = ap (λ (m : Mark _). m.index) (get_or_default marks place d w.index-marks-place.result h) in
          omega (arith, c.lowest-place.ensures.above place d (omega arith) h, w.if-marks-place.false)
      | else-place-marks-via-else-place-marks w ↦ λ d h. absurd (omega (arith, w.if-place-marks.false))
    ])
