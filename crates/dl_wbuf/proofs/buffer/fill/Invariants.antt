use Rattle.std.proofs.Common.{◌≡◌}
use Rattle.dl_wbuf.proofs.Positions.{IsFilled}
use Rattle.dl_wbuf.proofs.buffer.fill.Given as goal

abbrev pub invariant-loop-i : goal.invariant-loop-i
invariant-loop-i l = record {
  filled : IsFilled l.table l.words.items l.i;
  words : l.words.items ≡ l.fn.words.items;
  room : l.table.room ≡ l.fn.table.room;
}
