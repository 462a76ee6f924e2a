use Rattle.std.proofs.Common.{◌<◌, length, ◌∙◌, arith}
use Rattle.std.proofs.lemmas.List.{length-set}
use Rattle.std.proofs.lemmas.Result.{on_ok_weaker}
use Rattle.dl_moments.proofs.Lanes.{same_lane, HaveNone-set, Roomy-more, Roomy-set, all_room}
use Rattle.dl_moments.proofs.moments.Moments.reserve.Goals as goal

pub invariant_of-self : goal.invariant_of-self
invariant_of-self g c =
    let lanes = c.loop-thread.self-inside.lanes.items in
    let t = c.loop-thread.thread in
    let used = c.loop-thread.self-inside.used in
    let i = c.loop-thread.invariant in
    (length-set lanes t c.reserve.new.self ∙ i.0, i.1, HaveNone-set lanes used used t c.reserve.new.self i.4 (omega arith) (omega (arith, i.2)), i.5)

pub returns-in_err-reserve-clause-lanes : goal.returns-in_err-reserve-clause-lanes
returns-in_err-reserve-clause-lanes g c =
    let lanes = c.loop-thread.self-inside.lanes.items in
    let i = c.loop-thread.invariant in
    let within : c.loop-thread.thread < length lanes = omega (arith, i.0, i.1, i.2) in
    same_lane lanes c.loop-thread.thread c.index_mut-lane.result.now c.reserve.new.self within c.index_mut-lane.ensures.value c.reserve.ensures.marks ∙ i.3

pub loop-thread-preserved : goal.loop-thread-preserved
loop-thread-preserved g c =
    let lanes = c.loop-thread.self-inside.lanes.items in
    let t = c.loop-thread.thread in
    let used = c.loop-thread.self-inside.used in
    let new = c.reserve.new.self in
    let i = c.loop-thread.invariant in
    let room = c.in_ok-reserve.ensures.ok in
    let within : t < length lanes = omega (arith, i.0, i.1, i.2) in (
      length-set lanes t new ∙ i.0,
      i.1,
      i.2,
      same_lane lanes t c.index_mut-lane.result.now new within c.index_mut-lane.ensures.value c.reserve.ensures.marks ∙ i.3,
      HaveNone-set lanes used used t new i.4 (omega arith) (omega (arith, i.2)),
      i.5,
      Roomy-more lanes t new within i.6 room,
      λ h. (Roomy-set lanes used t new within (i.7 h).0 room, (i.7 h).1),
    )

pub returns-clause-ok : goal.returns-clause-ok
returns-clause-ok g c =
    let lanes = c.loop-thread.self-inside.lanes.items in
    let used = c.loop-thread.self-inside.used in
    let i = c.loop-thread.invariant in
    let all = all_room lanes used (omega (arith, i.0, i.1)) (λ k d l. i.6 k d (omega (arith, i.2))) in
    on_ok_weaker c.reserve-2.result (λ room. rw all room) c.reserve-2.ensures.ok
