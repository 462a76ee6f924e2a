use Rattle.std.proofs.Common.{◌≡◌, ◌-◌, ◌^◌, ◌≤◌, length, max, take}
use Rattle.dl_files.specs.Contents.{HoldsAt}
use Rattle.dl_scriptio.proofs.Pieces.{IsReadFrom}
use Rattle.dl_scriptio.proofs.reading.read_script_file.Given as goal

-- the script is read up to the offset, the piece is what the file holds from there on, the files are as before, and no larger piece was
-- asked for
abbrev pub invariant-loop-offset : goal.invariant-loop-offset
invariant-loop-offset g l = record {
  read : IsReadFrom (g.F.Files.seen l.fn.files).known l.name l.offset l.reader;
  lines : l.reader.lines ≤ l.offset;
  held : HoldsAt (g.F.Files.seen l.fn.files).known l.name l.offset (length l.piece) (take l.n l.piece);
  most : l.n ≤ length l.piece;
  seen : g.F.Files.seen l.files ≡ g.F.Files.seen l.fn.files;
  room : length l.piece ≡ 32768;
  pieces : g.F.Files.largest l.files ≤ max (g.F.Files.largest l.fn.files) 32768;
}

abbrev pub decreases-loop-offset : goal.decreases-loop-offset
decreases-loop-offset g l = 2 ^ 30 - l.offset
