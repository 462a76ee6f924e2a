use Rattle.std.proofs.Common.{◌≡◌, ◌≤◌, ◌-◌, length, take}
use Rattle.dl_event.proofs.script.common.Given as goal

-- that many bytes are the same
abbrev pub invariant-loop-x : goal.invariant-loop-x
invariant-loop-x l = record {
  same : take l.n l.a ≡ take l.n l.b;
  within : l.n ≤ length l.a;
  within_other : l.n ≤ length l.b;
}

abbrev pub decreases-loop-x : goal.decreases-loop-x
decreases-loop-x l = length l.a - l.n
