use Rattle.std.proofs.Common.{◌≡◌, ◌<◌, ◌≤◌, ◌+◌, ◌++◌, length, take}
use Rattle.spec_log.specs.Bytes.{log_bytes}
use Rattle.dl_logfmt.proofs.whole.write_log.Given as goal

-- what is put already, the bytes of the piece that aren't, and those that are left make the whole
abbrev pub invariant-loop-count : goal.invariant-loop-count
invariant-loop-count l =
    (l.out.items ++ (take l.count l.piece ++ l.writer) ≡ log_bytes l.log) × (l.count ≤ 512)
    × (l.count < 512 → length l.writer ≡ 0) × (length l.piece ≡ 512)

abbrev pub decreases-loop-count : goal.decreases-loop-count
decreases-loop-count l = l.count + length l.writer
