use Rattle.std.proofs.Common.{◌≡◌, ◌<◌, ◌+◌, nat_lt, true, false, [], length, get_or, slice_index, drop, refl, ap, sym, ◌∙◌, arith, rules}
use Rattle.std.specs.List.{list_all}
use Rattle.spec_log.specs.declared.sizes.ShortSize.{ShortSize}
use Rattle.dl_mode.specs.ThreadSizes.{short_of, sizes_from}
use Rattle.dl_moments.proofs.Entries.{entries-next, all-lane}
use Rattle.dl_mode.proofs.thread_sizes.ThreadSizes.used.Goals as goal

pub returns-then-not-all_below : goal.returns-then-not-all_below
returns-then-not-all_below c =
    let lanes = c.self.inside.sizes.lanes in
    let t = c.loop-thread.thread in
    let done = c.args.done.now in
    let p = λ (s : ShortSize). nat_lt s.index (slice_index done s.thread) in
    let h : t < length lanes = omega (arith, c.self.invariant) in
    let f = rw (c.count_of.ensures, c.lane.ensures.marks) at c.all_below.ensures in
    let no : c.all_below.result ≡ false = search rules in
    sym (c.loop-thread.invariant ∙ (ap (list_all p) (entries-next short_of lanes t h)
    ∙ (all-lane short_of p (get_or lanes t []) (sizes_from (t + 1) (drop (t + 1) lanes)) t
    ∙ rw (← f, no) refl)))

pub loop-thread-preserved : goal.loop-thread-preserved
loop-thread-preserved c =
    let lanes = c.self.inside.sizes.lanes in
    let t = c.loop-thread.thread in
    let done = c.args.done.now in
    let p = λ (s : ShortSize). nat_lt s.index (slice_index done s.thread) in
    let h : t < length lanes = omega (arith, c.self.invariant) in
    let f = rw (c.count_of.ensures, c.lane.ensures.marks) at c.all_below.ensures in
    let yes : c.all_below.result ≡ true = search rules in
    c.loop-thread.invariant ∙ (ap (list_all p) (entries-next short_of lanes t h)
    ∙ (all-lane short_of p (get_or lanes t []) (sizes_from (t + 1) (drop (t + 1) lanes)) t
    ∙ rw (← f, yes) refl))
