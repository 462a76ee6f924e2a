use Rattle.std.proofs.Common.{◌≡◌, ◌^◌, ◌<◌, ◌≤◌, ◌-◌, ℕ, List, length, max}
use Rattle.dl_logfmt.specs.Feeding.{HasFed}
use Rattle.dl_logio.proofs.Pieces.{IsFront}
use Rattle.dl_logio.proofs.reading.read_log_file.Given as goal

-- the reader was fed the first bytes of the file, up to the offset, the files are as before, and no larger piece was asked for
abbrev pub invariant-loop-reader : goal.invariant-loop-reader
invariant-loop-reader g l = record {
  fed : (bytes : List ℕ) × HasFed bytes l.reader × (length bytes ≡ l.offset) × (length bytes < 2 ^ 64) × IsFront (g.F.Files.seen l.fn.files).known l.name bytes;
  seen : g.F.Files.seen l.files ≡ g.F.Files.seen l.fn.files;
  room : length l.piece ≡ 4096;
  pieces : g.F.Files.largest l.files ≤ max (g.F.Files.largest l.fn.files) 4096;
}

abbrev pub decreases-loop-reader : goal.decreases-loop-reader
decreases-loop-reader g l = 2 ^ 64 - l.offset
