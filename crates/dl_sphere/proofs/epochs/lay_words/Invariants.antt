use Rattle.std.proofs.Common.{◌≡◌, length}
use Rattle.std.specs.VecDeque.Iter.{deque_iter_rest}
use Rattle.spec_isa.specs.Words.{lays}
use Rattle.spec_isa.specs.Inside.{AreInside}
use Rattle.dl_sphere.proofs.epochs.lay_words.Given as goal

abbrev pub invariant-loop-stored : goal.invariant-loop-stored
invariant-loop-stored l = record {
  laid : lays l.bytes (deque_iter_rest l.stored-iterator) ≡ lays l.fn.bytes l.words.words;
  inside : AreInside (length l.bytes) (deque_iter_rest l.stored-iterator);
}
