use Rattle.std.proofs.Common.{◌<◌, ◌≤◌, ◌+◌, List, false, length, get_or, drop, slice_get, [], refl, ap, ◌∙◌, arith}
use Rattle.dl_moments.specs.declared.lane.Mark.{Mark}
use Rattle.dl_input.specs.declared.interrupts.Raised.{Raised}
use Rattle.dl_input.specs.Tracked.{Tracked, tracked_of, tracked_from}
use Rattle.dl_moments.proofs.Entries.{entries-next}
use Rattle.dl_input.proofs.TrackedLists.{slice_get-lane, slice_get-behind}
use Rattle.dl_input.proofs.interrupts.Interrupts.nth.Goals as goal

pub returns-then-left-lane : goal.returns-then-left-lane
returns-then-left-lane c =
    let lanes = c.self.inside.moments.lanes in
    let t = c.loop-thread.thread in
    let left = c.loop-thread.left in
    let lane : List (Mark Raised) = get_or lanes t [] in
    let h : t < length lanes = omega (arith, c.self.invariant) in
    let l : left < length lane = rw c.lane-lane.ensures.marks at c.if-left-lane.true in
    let e = c.loop-thread.invariant ∙ (ap (λ (xs : List Tracked). slice_get xs left) (entries-next tracked_of lanes t h)
    ∙ slice_get-lane lane (tracked_from (t + 1) (drop (t + 1) lanes)) t left (record { index = 0; value = record { value = 0; taken = false } }) l) in
    rw (e, c.seen.ensures, c.lane-lane.ensures.marks) refl

pub loop-thread-preserved : goal.loop-thread-preserved
loop-thread-preserved c =
    let lanes = c.self.inside.moments.lanes in
    let t = c.loop-thread.thread in
    let left = c.loop-thread.left in
    let lane : List (Mark Raised) = get_or lanes t [] in
    let h : t < length lanes = omega (arith, c.self.invariant) in
    let l : length lane ≤ left = rw c.lane-lane.ensures.marks at c.if-left-lane.false in
    rw c.lane-lane.ensures.marks
    (c.loop-thread.invariant ∙ (ap (λ (xs : List Tracked). slice_get xs left) (entries-next tracked_of lanes t h)
    ∙ slice_get-behind lane (tracked_from (t + 1) (drop (t + 1) lanes)) t left l))
