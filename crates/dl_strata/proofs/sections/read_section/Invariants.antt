use Rattle.std.proofs.Common.{◌≡◌, ◌-◌}
use Rattle.spec_log.specs.Fields.{one_more, repeated}
use Rattle.dl_strata.proofs.sections.read_section.Given as goal

-- the entries that are left, after those so far, are read as all of them
abbrev pub invariant-loop : goal.invariant-loop
invariant-loop g l =
    let one = one_more g.E.Entry.earlier (g.E.Entry.reader l.shape) in
    repeated one l.count l.initial.list l.source.bytes.now l.initial.at ≡ repeated one (l.count - l.counter) l.list l.source.bytes.now l.at
