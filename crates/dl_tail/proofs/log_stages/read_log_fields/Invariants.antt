use Rattle.std.proofs.Common.{◌≡◌, ◌-◌}
use Rattle.spec_log.specs.Fields.{all_of}
use Rattle.spec_tail.specs.Reading.{log_stages}
use Rattle.dl_logfmt.specs.Parsing.{rank}
use Rattle.dl_tail.proofs.StageLaws.{ahead}
use Rattle.dl_tail.proofs.log_stages.read_log_fields.Given as goal

-- the stages from here on are read as all of them
abbrev pub invariant-loop-stage : goal.invariant-loop-stage
invariant-loop-stage l =
    all_of log_stages l.initial.draft l.source.bytes.now l.initial.at ≡ ahead l.stage l.draft l.source.bytes.now l.at

abbrev pub decreases-loop-stage : goal.decreases-loop-stage
decreases-loop-stage l = 11 - rank l.stage
