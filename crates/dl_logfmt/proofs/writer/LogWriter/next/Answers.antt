use Rattle.dl_logfmt.proofs.Written.{Writing-unit, Writing-all}
use Rattle.dl_logfmt.proofs.writer.LogWriter.next.Goals as goal

pub loop-count-preserved : goal.loop-count-preserved
loop-count-preserved c =
    let given = c.give-count-in-loop-count.ensures in
    Writing-unit c.loop-count.invariant c.loop-count-test.true c.in-Some.ensures.0
    (record { most = given.count; bytes = given.bytes }) given.left

pub returns-in_default-clause-count : goal.returns-in_default-clause-count
returns-in_default-clause-count c = Writing-all c.loop-count.invariant c.in_default.ensures.0
