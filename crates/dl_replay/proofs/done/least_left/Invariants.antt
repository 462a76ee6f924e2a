use Rattle.std.proofs.Common.{◌≡◌, drop}
use Rattle.spec_strata.specs.Standing.{least_left}
use Rattle.dl_replay.proofs.done.least_left.Given as goal

-- it is among those that are left
abbrev pub invariant-loop-thread : goal.invariant-loop-thread
invariant-loop-thread l = least_left l.from (drop l.from l.counts) (drop l.from l.done) ≡ least_left l.thread (drop l.thread l.counts) (drop l.thread l.done)
