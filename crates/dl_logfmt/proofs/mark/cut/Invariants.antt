use Rattle.std.proofs.Common.{◌≡◌, length, take}
use Rattle.dl_logfmt.proofs.mark.cut.Given as goal

-- the entries up to there stay
abbrev pub invariant-loop-list : goal.invariant-loop-list
invariant-loop-list g l = take l.len l.list ≡ take l.len l.initial.list

abbrev pub decreases-loop-list : goal.decreases-loop-list
decreases-loop-list g l = length l.list
