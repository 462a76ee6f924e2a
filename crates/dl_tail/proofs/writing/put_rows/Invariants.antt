use Rattle.std.proofs.Common.{◌≡◌, ◌+◌, ◌/◌, ◌%◌, ◌^◌, ◌≤◌, ◌++◌, length}
use Rattle.std.specs.List.{flat_map}
use Rattle.spec_tail.specs.Bytes.{row_bytes, rows_of}
use Rattle.dl_tail.proofs.PutLaws.{bytes_left}
use Rattle.dl_tail.proofs.writing.put_rows.Given as goal

-- what is put, and the bytes of the rows that are left
abbrev pub invariant-loop-rest : goal.invariant-loop-rest
invariant-loop-rest l =
    (l.out.items ++ bytes_left l.number l.rest ≡ l.initial.out.items ++ flat_map row_bytes (rows_of l.memory))
    × (length l.rest % 32 ≡ 0) × (l.number + length l.rest / 32 ≤ 2 ^ 19)

abbrev pub decreases-loop-rest : goal.decreases-loop-rest
decreases-loop-rest l = length l.rest
