-- The chunk as its parts.
use Rattle.std.specs.Prelude.{◌≡◌, ℕ, ◌≤◌, ◌<◌, suc, Bool, List, length, Option, None}
use Rattle.spec_isa.specs.declared.thread.Parts.{Parts}
use Rattle.spec_isa.specs.declared.thread.Load.{Load}
use Rattle.spec_isa.specs.Runs.{with_load}
use Rattle.spec_engine.specs.declared.answers.How.{How}
use Rattle.spec_engine.specs.Chunks.{Chunk, Engine, Stepping, fresh, step}
use Rattle.spec_engine.specs.Flights.{Flight}
use Rattle.dl_chunk.specs.Stores.{Notes}

-- what the chunk has run
pub record Executed : Type 0 where
  pub thread : Parts
  pub loads : List Load
  pub n : ℕ
  pub closed : Option How

-- what it was begun with, and its squashes
pub record Terms : Type 0 where
  pub start : Parts
  pub limit : ℕ
  pub halves : Bool
  pub squashes : ℕ

abbrev pub chunk_of : Terms → Executed → Notes → Chunk
chunk_of t p n =
    record {
      sphere = n.sphere;
      start = t.start;
      done = record { thread = p.thread; words = n.words.words; loads = p.loads; n = p.n };
      reads = n.reads;
      writes = n.writes;
      closed = p.closed;
      limit = t.limit;
      halves = t.halves;
      squashes = t.squashes;
    }

abbrev pub engine_of : (most : ℕ) → Terms → Executed → Notes → Engine
engine_of most t p n = record { most = most; capacity = n.words.capacity; chunk = chunk_of t p n }

-- the chunk of this sphere begun again from its start, with its squashes
abbrev pub restarted : (sphere : ℕ) → Chunk → Chunk
restarted i ch = record (fresh ch.reads.bits i ch.start ch.limit ch.halves) { squashes = ch.squashes }

-- a step of the engine's chunk, as core c
abbrev pub stepped : List ℕ → List (Option Flight) → (core : ℕ) → Engine → Stepping
stepped m slots c e = step e.capacity m slots c e.chunk

-- the chunk with one instruction more, and its load
abbrev pub with_ran : Chunk → Option Load → Chunk
with_ran ch load = record ch { done = record ch.done { loads = with_load ch.done.loads load; n = suc ch.done.n } }

-- it may run from 1 to `most` instructions, for whose loads there is room; each has one load at most; an open chunk is below its
-- limit; and squashes are counted up to three
pub record IsEngine (most room : ℕ) (t : Terms) (p : Executed) : Type 0 where
  pub least : 1 ≤ t.limit
  pub within : t.limit ≤ most
  pub made : most ≤ room
  pub loads : length p.loads ≤ p.n
  pub opened : p.closed ≡ None → p.n < t.limit
  pub few : t.squashes ≤ 3
