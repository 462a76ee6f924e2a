use Rattle.std.proofs.Common.{◌≡◌, ◌≤◌, ◌-◌}
use Rattle.spec_isa.specs.Runs.{run}
use Rattle.dl_serial.specs.Chunks.{chunk_of}
use Rattle.dl_serial.proofs.chunk.Chunk.run.Given as goal

abbrev pub invariant-loop-self : goal.invariant-loop-self
invariant-loop-self l = record {
  chunk : l.self ≡ chunk_of (run l.memory l.fn.self.thread l.self.n);
  words : l.words.words ≡ (run l.memory l.fn.self.thread l.self.n).words;
  room : l.words.capacity ≡ l.fn.words.capacity;
  within : l.self.n ≤ l.fn.limit;
}

abbrev pub decreases-loop-self : goal.decreases-loop-self
decreases-loop-self l = l.fn.limit - l.self.n
