use Rattle.std.proofs.Common.{◌≡◌, ◌+◌, ◌%◌, ◌^◌, ◌≤◌, length}
use Rattle.spec_tail.specs.Bytes.{rows_of}
use Rattle.dl_tail.proofs.PutLaws.{rows_left}
use Rattle.dl_tail.proofs.writing.count_rows.Given as goal

-- those so far, and those that are left
abbrev pub invariant-loop-rest : goal.invariant-loop-rest
invariant-loop-rest l =
    (l.count + rows_left l.rest ≡ length (rows_of l.memory)) × (length l.rest % 32 ≡ 0) × (length l.rest ≤ 2 ^ 24)

abbrev pub decreases-loop-rest : goal.decreases-loop-rest
decreases-loop-rest l = length l.rest
