use Rattle.std.proofs.Common.{◌≡◌, take}
use Rattle.dl_tail.specs.Later.{short_that_follow}
use Rattle.dl_tail.proofs.later.short_later.Given as goal

-- what stays of those so far
abbrev pub invariant-loop-size : goal.invariant-loop-size
invariant-loop-size l = l.later ≡ short_that_follow l.threads (take l.size-index l.sizes)
