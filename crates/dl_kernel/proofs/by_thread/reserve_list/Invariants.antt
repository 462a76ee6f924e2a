use Rattle.std.proofs.Common.{◌≡◌, ℕ, length, take}
use Rattle.dl_kernel.specs.InOrder.{joined}
use Rattle.dl_kernel.proofs.Joined.{items_of}
use Rattle.dl_kernel.proofs.by_thread.reserve_list.Given as goal

-- there are so many lists, and the new ones are empty
abbrev pub invariant-loop : goal.invariant-loop
invariant-loop l =
    (length l.lists.items ≡ l.counter)
    × ((n : ℕ) → joined (take n (items_of l.lists.items)) ≡ joined (take n (items_of l.fn.lists.items)))
    × (joined (items_of l.lists.items) ≡ joined (items_of l.fn.lists.items))
