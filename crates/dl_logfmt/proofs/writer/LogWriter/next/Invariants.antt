use Rattle.std.proofs.Common.{◌-◌, length}
use Rattle.dl_logfmt.proofs.Written.{Writing}
use Rattle.dl_logfmt.proofs.writer.LogWriter.next.Given as goal

abbrev pub invariant-loop-count : goal.invariant-loop-count
invariant-loop-count l = Writing l.count l.fn.self l.self-inside.unit l.self-inside.units l.fn.into l.into

abbrev pub decreases-loop-count : goal.decreases-loop-count
decreases-loop-count l = length l.initial.into - l.count
