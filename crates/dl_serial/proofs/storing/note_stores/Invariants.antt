use Rattle.std.specs.VecDeque.Iter.{deque_iter_rest}
use Rattle.spec_isa.specs.Words.{lays}
use Rattle.spec_query.specs.Stores.{store_of}
use Rattle.dl_serial.proofs.Buffered.{IsNoted}
use Rattle.dl_serial.proofs.storing.note_stores.Given as goal

abbrev pub invariant-loop-stored : goal.invariant-loop-stored
invariant-loop-stored l =
    IsNoted (store_of l.by.commit l.by.actor (lays l.memory l.words.words)) l.fn.stores.items l.stores.items l.words.words (deque_iter_rest l.stored-iterator)
