use Rattle.std.proofs.Common.{◌≡◌, ◌-◌}
use Rattle.spec_log.specs.Fields.{repeated}
use Rattle.spec_tail.specs.Reading.{rows}
use Rattle.dl_tail.proofs.rows.read_rows.Given as goal

-- the rows that are left, after those so far, are read as all of them
abbrev pub invariant-loop : goal.invariant-loop
invariant-loop l =
    repeated rows.one l.count l.initial.draft l.bytes l.initial.at ≡ repeated rows.one (l.count - l.counter) l.draft l.bytes l.at
