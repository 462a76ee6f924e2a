use Rattle.std.proofs.Common.{◌≡◌, ◌<◌, ◌+◌, true, false, [], length, get_or, drop, refl, ap, sym, ◌∙◌, arith, rules}
use Rattle.std.specs.List.{list_all}
use Rattle.dl_input.specs.Tracked.{Tracked, tracked_of, tracked_from}
use Rattle.dl_moments.proofs.Entries.{entries-next, all-lane}
use Rattle.dl_input.proofs.interrupts.Interrupts.used.Goals as goal

pub returns-then-not-all_taken : goal.returns-then-not-all_taken
returns-then-not-all_taken c =
    let lanes = c.self.inside.moments.lanes in
    let t = c.loop-thread.thread in
    let p = λ (s : Tracked). s.raised.taken in
    let h : t < length lanes = omega (arith, c.self.invariant) in
    let f = rw c.lane.ensures.marks at c.all_taken.ensures in
    let no : c.all_taken.result ≡ false = search rules in
    sym (c.loop-thread.invariant ∙ (ap (list_all p) (entries-next tracked_of lanes t h)
    ∙ (all-lane tracked_of p (get_or lanes t []) (tracked_from (t + 1) (drop (t + 1) lanes)) t ∙ rw (← f, no) refl)))

pub loop-thread-preserved : goal.loop-thread-preserved
loop-thread-preserved c =
    let lanes = c.self.inside.moments.lanes in
    let t = c.loop-thread.thread in
    let p = λ (s : Tracked). s.raised.taken in
    let h : t < length lanes = omega (arith, c.self.invariant) in
    let f = rw c.lane.ensures.marks at c.all_taken.ensures in
    let yes : c.all_taken.result ≡ true = search rules in
    c.loop-thread.invariant ∙ (ap (list_all p) (entries-next tracked_of lanes t h)
    ∙ (all-lane tracked_of p (get_or lanes t []) (tracked_from (t + 1) (drop (t + 1) lanes)) t ∙ rw (← f, yes) refl))
