use Rattle.std.proofs.Common.{◌≡◌, length, drop}
use Rattle.spec_tail.specs.Reading.{memory_of, with_rows}
use Rattle.dl_tail.proofs.rows.memory_of.Given as goal

-- with the rows that are left it is the memory of all
abbrev pub invariant-loop-row : goal.invariant-loop-row
invariant-loop-row l =
    (with_rows l.memory.items (drop l.row-index l.rows) ≡ memory_of l.size l.rows) × (length l.memory.items ≡ l.size)
