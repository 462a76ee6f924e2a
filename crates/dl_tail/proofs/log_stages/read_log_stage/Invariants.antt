use Rattle.std.proofs.Common.{◌≡◌, ◌-◌}
use Rattle.spec_log.specs.Fields.{repeated}
use Rattle.dl_logfmt.specs.Parsing.{stage_at}
use Rattle.dl_tail.proofs.log_stages.read_log_stage.Given as goal

-- what is left, after what was read so far, is read as all of it
abbrev pub invariant-loop : goal.invariant-loop
invariant-loop l =
    let one = (stage_at l.stage).one in
    repeated one l.times l.initial.draft l.source.bytes.now l.initial.at ≡ repeated one (l.times - l.counter) l.draft l.source.bytes.now l.at
