use Rattle.std.proofs.Common.{◌≡◌, length}
use Rattle.spec_isa.specs.Words.{lays}
use Rattle.spec_isa.specs.Inside.{AreInside}
use Rattle.dl_serial.proofs.overlay.drain.Given as goal

abbrev pub invariant-loop-stored : goal.invariant-loop-stored
invariant-loop-stored l = record {
  laid : lays l.memory l.words.words ≡ lays l.fn.memory l.fn.words.words;
  capacity : l.words.capacity ≡ l.fn.words.capacity;
  inside : AreInside (length l.memory) l.words.words;
}

abbrev pub decreases-loop-stored : goal.decreases-loop-stored
decreases-loop-stored l = length l.words.words
