-- A thread's run as the code keeps it; the words that it stored lie over the memory.
use Rattle.std.specs.Prelude.{◌≡◌, ℕ, List, map, IsSome}
use Rattle.spec_isa.specs.declared.thread.Parts.{Parts}
use Rattle.spec_isa.specs.Words.{Stored}
use Rattle.spec_isa.specs.Runs.{Run, run}
use Rattle.spec_kernel.specs.Needs.{next_kind}
use Rattle.spec_play.specs.Effects.{entry_of}
use Rattle.dl_serial.specs.declared.chunk.Chunk.{Chunk}

-- with its loads as accounts tell them
abbrev pub chunk_of : Run → Chunk
chunk_of r = record { thread = r.thread; loads = map entry_of r.loads; n = r.n }

-- the chunk, with these words, is the run of this thread on memory m of up to so many instructions; where it has none,
-- the thread's next instruction is serial
pub record HasRun (m : List ℕ) (t : Parts) (limit : ℕ) (c : Chunk) (words : List Stored) : Type 0 where
  pub chunk : c ≡ chunk_of (run m t limit)
  pub words_stored : words ≡ (run m t limit).words
  -- a run stays where the next instruction is serial
  pub ran : run m t limit ≡ run m t c.n
  pub serial : c.n ≡ 0 → IsSome (next_kind t m)
