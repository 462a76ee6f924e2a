use Rattle.std.proofs.Common.{◌≡◌, ◌+◌, ◌≤◌, [], ◌++◌, length, take, drop, vec_len, vec_capacity}
use Rattle.dl_kernel.specs.InOrder.{joined}
use Rattle.dl_kernel.proofs.Joined.{items_of}
use Rattle.dl_kernel.proofs.by_thread.move_all.Given as goal

-- the lists so far are moved, and there is room for those to come
abbrev pub invariant-loop-thread : goal.invariant-loop-thread
invariant-loop-thread l =
    let lists = items_of l.lists in
    let left = joined (drop l.thread lists) in
    (l.whole.items ++ left ≡ l.fn.whole.items ++ joined (items_of l.fn.lists))
    × (joined (take l.thread lists) ≡ [])
    × (vec_len l.whole + length left ≤ vec_capacity l.whole)
    × (vec_capacity l.fn.whole ≤ vec_capacity l.whole)
