use Rattle.std.proofs.Common.{◌≡◌, ◌-◌}
use Rattle.spec_log.specs.Fields.{repeated}
use Rattle.spec_strata.specs.Reading.{strata}
use Rattle.dl_strata.proofs.runs.read_runs.Given as goal

-- the strata that are left, after those so far, are read as all of them
abbrev pub invariant-loop : goal.invariant-loop
invariant-loop l =
    repeated strata.one l.count l.initial.draft l.source.bytes.now l.initial.at ≡ repeated strata.one (l.count - l.counter) l.draft l.source.bytes.now l.at
