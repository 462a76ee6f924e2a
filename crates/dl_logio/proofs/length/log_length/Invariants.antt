use Rattle.std.proofs.Common.{◌≡◌, ◌+◌, length}
use Rattle.spec_log.specs.Bytes.{log_bytes}
use Rattle.dl_logio.proofs.length.log_length.Given as goal

-- what is counted, with what is left, is the whole length
abbrev pub invariant-loop-writer : goal.invariant-loop-writer
invariant-loop-writer l = (l.length + length l.writer ≡ length (log_bytes l.fn.log)) × (length l.piece ≡ 4096)

abbrev pub decreases-loop-writer : goal.decreases-loop-writer
decreases-loop-writer l = length l.writer
