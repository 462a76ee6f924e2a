use Rattle.std.proofs.Common.{◌≡◌, ℕ, ◌+◌, ◌-◌, nat_le, true, false, length, slice_index, refl, ap, sym, ◌∙◌, arith}
use Rattle.std.proofs.lemmas.Bool.{le-leb, lt-leb}
use Rattle.std.specs.List.{list_all}
use Rattle.dl_entry.specs.Numbers.{most_threads}
use Rattle.spec_log.specs.Size.{sizes_of_thread}
use Rattle.dl_mode.proofs.SizeLookups.{range-next}
use Rattle.dl_mode.proofs.order_size.OrderAndSizeMode.used.Goals as goal

pub loop-thread-preserved : goal.loop-thread-preserved
loop-thread-preserved c =
    let w = c.log.invariant in
    let t = c.loop-thread.thread in
    let p = λ (thread : ℕ). nat_le (length (sizes_of_thread thread c.log.inside.order.items c.log.inside.sizes.items)) (slice_index c.args.done.now thread) in
    let next = range-next t (most_threads - t) (most_threads - (t + 1)) (omega arith) in
    let yes : p t ≡ true = le-leb _ _ (omega (arith, w.counted t, c.count_of-past.ensures, c.done.ensures, c.count_of.ensures, c.if-done-past.false)) in
    c.loop-thread.invariant ∙ (ap (list_all p) next ∙ rw yes refl)

pub returns-then-done-past : goal.returns-then-done-past
returns-then-done-past c =
    let w = c.log.invariant in
    let t = c.loop-thread.thread in
    let p = λ (thread : ℕ). nat_le (length (sizes_of_thread thread c.log.inside.order.items c.log.inside.sizes.items)) (slice_index c.args.done.now thread) in
    let next = range-next t (most_threads - t) (most_threads - (t + 1)) (omega arith) in
    let no : p t ≡ false = lt-leb _ _ (omega (arith, w.counted t, c.count_of-past.ensures, c.done.ensures, c.count_of.ensures, c.if-done-past.true)) in
    rw (← c.log.view_is) (sym (c.loop-thread.invariant ∙ (ap (list_all p) next ∙ rw no refl)))

pub returns : goal.returns
returns c =
    let end : most_threads - c.loop-thread.thread ≡ 0 = omega arith in
    rw (← c.log.view_is) (sym (c.loop-thread.invariant ∙ rw end refl))
