use Rattle.std.proofs.Common.{◌≡◌, ℕ, List, ◌++◌, length}
use Rattle.dl_files.specs.Contents.{with_file}
use Rattle.dl_files.specs.Seen.{IsWritten}
use Rattle.spec_log.specs.Bytes.{log_bytes}
use Rattle.dl_logio.proofs.writing.write_log_file.Given as goal

-- the file holds the first of the log's bytes, the others are left, and no call has failed
abbrev pub invariant-loop-writer : goal.invariant-loop-writer
invariant-loop-writer g l = record {
  done : (bytes : List ℕ) × (bytes ++ l.writer ≡ log_bytes l.fn.log) × IsWritten (with_file l.name bytes (g.F.Files.seen l.fn.files).known) (g.F.Files.seen l.fn.files) (g.F.Files.seen l.files);
}

abbrev pub decreases-loop-writer : goal.decreases-loop-writer
decreases-loop-writer g l = length l.writer
