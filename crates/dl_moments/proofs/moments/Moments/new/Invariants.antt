use Rattle.std.proofs.Common.{◌≡◌, [], length, map, replicate}
use Rattle.dl_moments.proofs.Lanes.{marks_of}
use Rattle.dl_moments.proofs.moments.Moments.new.Given as goal

abbrev pub invariant-loop : goal.invariant-loop
invariant-loop g l = (length l.lanes.items ≡ l.counter) × (map marks_of l.lanes.items ≡ replicate l.counter [])
