use Rattle.std.proofs.Common.{◌≡◌, drop}
use Rattle.spec_strata.specs.Standing.{least_left}
use Rattle.dl_replay.specs.Starts.{none_done_of}
use Rattle.dl_replay.proofs.ready.first_of.Given as goal

-- it is among those that are left
abbrev pub invariant-loop-thread : goal.invariant-loop-thread
invariant-loop-thread l = least_left 0 l.counts (none_done_of l.counts) ≡ least_left l.thread (drop l.thread l.counts) (drop l.thread (none_done_of l.counts))
