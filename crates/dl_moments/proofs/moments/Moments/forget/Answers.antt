use Rattle.std.proofs.Common.{◌<◌, length, ◌∙◌, refl, sym, ap, arith}
use Rattle.std.proofs.lemmas.Bool.{and_parts}
use Rattle.std.proofs.lemmas.List.{length-map, length-set}
use Rattle.dl_moments.specs.Views.{By}
use Rattle.dl_moments.proofs.Lanes.{marks_of, AreCut-none, AreCut-more, AreCut-all, HaveNone-cut, Roomy-kept, all_room, all_roomy}
use Rattle.dl_moments.proofs.moments.Moments.forget.Goals as goal

pub loop-thread-init : goal.loop-thread-init
loop-thread-init g c =
    let i = c.self.invariant in
    let lanes = c.self.inside.lanes.items in (
      i.0,
      i.1,
      AreCut-none c.args.starts.now c.args.self.now.lanes _ (ap (λ (b : By _). b.lanes) c.self.view_is),
      i.2,
      i.3,
      λ h. let parts = and_parts _ _ (ap (λ (b : By _). b.room) c.self.view_is ∙ h) in
          (all_roomy lanes c.self.inside.used (omega (arith, i.0, i.1)) parts.0, parts.1),
    )

pub invariant_of-self : goal.invariant_of-self
invariant_of-self g c =
    let i = c.loop-thread.invariant in (i.0, i.1, i.3, i.4)

pub loop-thread-preserved : goal.loop-thread-preserved
loop-thread-preserved g c =
    let lanes = c.loop-thread.self-inside.lanes.items in
    let t = c.loop-thread.thread in
    let used = c.loop-thread.self-inside.used in
    let lane = c.index_mut-lane.result.now in
    let new = c.forget.new.self in
    let is = c.index_mut-lane.ensures.value in
    let i = c.loop-thread.invariant in
    let within : t < length lanes = omega (arith, i.0) in (
      length-set lanes t new ∙ i.0,
      i.1,
      AreCut-more c.args.starts.now t c.start_of.result c.args.self.now.lanes lanes lane new i.2 within c.start_of.ensures is c.forget.ensures.marks,
      HaveNone-cut lanes used t c.start_of.result lane new i.3 within is c.forget.ensures.marks,
      i.4,
      λ h. (Roomy-kept lanes used t lane new within is (i.5 h).0 c.forget.ensures.room, (i.5 h).1),
    )

pub returns-clause-lanes : goal.returns-clause-lanes
returns-clause-lanes g c =
    let i = c.loop-thread.invariant in
    let lanes = c.loop-thread.self-inside.lanes.items in
    AreCut-all c.args.starts.now c.loop-thread.thread c.args.self.now.lanes _ i.2 (omega (arith, i.0, i.2.long, length-map lanes marks_of))

pub returns-clause-room : goal.returns-clause-room
returns-clause-room g c = λ h.
    let i = c.loop-thread.invariant in
    let rooms = i.5 h in
    rw (all_room c.loop-thread.self-inside.lanes.items c.loop-thread.self-inside.used (omega (arith, i.0, i.1)) rooms.0, rooms.1) refl
