use Rattle.std.proofs.Common.{◌≡◌, ◌++◌, length}
use Rattle.dl_strata.proofs.sections.put_section.Given as goal

-- what was put, and what is left
abbrev pub invariant-loop-unit : goal.invariant-loop-unit
invariant-loop-unit g l = l.out.items ++ l.left ≡ l.initial.out.items ++ l.initial.left

abbrev pub decreases-loop-unit : goal.decreases-loop-unit
decreases-loop-unit g l = length l.left
