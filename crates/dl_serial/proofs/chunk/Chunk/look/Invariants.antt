use Rattle.std.proofs.Common.{◌≡◌, ◌≤◌, ◌-◌, ℕ}
use Rattle.spec_isa.specs.Runs.{run}
use Rattle.spec_strata.specs.Footprints.{looks}
use Rattle.dl_serial.specs.Chunks.{chunk_of}
use Rattle.dl_serial.specs.Looks.{has}
use Rattle.dl_serial.proofs.chunk.Chunk.look.Given as goal

abbrev pub invariant-loop-self : goal.invariant-loop-self
invariant-loop-self l = record {
  chunk : l.self ≡ chunk_of (run l.memory l.fn.self.thread l.self.n);
  words : l.words.words ≡ (run l.memory l.fn.self.thread l.self.n).words;
  room : l.words.capacity ≡ l.fn.words.capacity;
  within : l.self.n ≤ l.fn.limit;
  looked : (a : ℕ) → has l.looked.items a ≡ looks l.memory l.fn.self.thread l.self.n a;
}

abbrev pub decreases-loop-self : goal.decreases-loop-self
decreases-loop-self l = l.fn.limit - l.self.n
