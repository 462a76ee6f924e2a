-- What holds of every world that the machine comes to.
use Rattle.std.specs.Prelude.{◌≡◌, ◌≢◌, ℕ, ◌<◌, ◌≤◌, true, false, List, [], length, slice_get, Option, Some, None}
use Rattle.spec_isa.specs.Words.{Stored, lays, Apart}
use Rattle.spec_kernel.specs.Interrupts.{is_live}
use Rattle.spec_play.specs.Effects.{counted}
use Rattle.spec_engine.specs.declared.answers.How.{How}
use Rattle.spec_engine.specs.Flights.{Flight, at}
use Rattle.spec_engine.specs.Chunks.{Chunk, may_follow}
use Rattle.spec_engine.specs.Laws.{CoversWords, CoversLoads}
use Rattle.spec_sphere.specs.sphere.Spheres.{Role, Sphere, is_stopped, limit_of, limit_after, halves, replays}
use Rattle.spec_protocol.specs.machine.World.{Numbers, Occupant, World, sphere_at}
use Rattle.spec_engine.specs.Flying.{flying}
use Rattle.spec_protocol.specs.promises.Currency.{IsCurrent, IsQuiet}

-- ---- flights

-- a flight's signature covers the lines of its words, and has the machine's size
pub record IsFlightCovered (bits : ℕ) (f : Flight) : Type 0 where
  pub size : f.writes.bits ≡ bits
  pub words : CoversWords f.sphere f.writes f.words

abbrev pub AreCovered : (bits : ℕ) → List (Option Flight) → Type 0
AreCovered bits slots = (k : ℕ) (f : Flight) → at slots k ≡ Some f → IsFlightCovered bits f

-- ---- chunks

-- how the number of a chunk's instructions stands to its limit, and to its loads and stores
pub record Closes (capacity : ℕ) (ch : Chunk) : Type 0 where
  pub positive : 0 < ch.limit
  pub opened : ch.closed ≡ None → ch.done.n < ch.limit
  pub full : ch.closed ≡ Some How.Limit → ch.done.n ≡ ch.limit
  pub early : (how : How) → ch.closed ≡ Some how → how ≢ How.Limit → ch.done.n < ch.limit
  pub cut : ch.closed ≡ Some How.Cut → 0 < ch.done.n
  pub room : ch.closed ≡ Some How.Overflow → capacity ≤ length ch.done.words
  pub few : length ch.done.words ≤ ch.done.n
  pub few_loads : length ch.done.loads ≤ ch.done.n

-- a chunk of core c, beside these slots, over the bytes m, which are its sphere's current memory, for a younger chunk with the
-- older's stores over it: its signatures cover what it has loaded and stored, no word is held twice, and it is current if it is
-- quiet
pub record IsGoodChunk (capacity bits : ℕ) (slots : List (Option Flight)) (c : ℕ) (m : List ℕ) (ch : Chunk) : Type 0 where
  pub reads_size : ch.reads.bits ≡ bits
  pub writes_size : ch.writes.bits ≡ bits
  pub apart : Apart ch.done.words
  pub writes : CoversWords ch.sphere ch.writes ch.done.words
  pub loads : CoversLoads ch.sphere ch.reads ch.done.loads
  pub closes : Closes capacity ch
  pub live : IsQuiet slots ch.sphere c ch.reads → IsCurrent m ch

-- ---- cores

-- the memory of sphere i with the words that fly laid over it
abbrev pub current : World → (i : ℕ) → List ℕ
current w i = lays (sphere_at w i).memory (flying i w.slots)

-- a chunk's limit is the whole one of its commit, or in a recording less
pub record LimitFits (role : Role) (whole limit : ℕ) : Type 0 where
  pub most : limit ≤ whole
  pub replayed : replays role ≡ true → limit ≡ whole

-- the chunk of core c is good where these words lie over the current memory of sphere i
abbrev pub IsGoodOver : World → (core i : ℕ) → List Stored → Chunk → Type 0
IsGoodOver w c i ws ch = IsGoodChunk w.numbers.capacity w.numbers.bits w.slots c (lays (current w i) ws) ch

-- the chunk began from the state of thread k of sphere p, which lives, and has the limit of the thread's commit
pub record IsOfThread (s : ℕ) (p : Sphere) (k : ℕ) (ch : Chunk) : Type 0 where
  pub start : slice_get p.threads k ≡ Some ch.start
  pub lives : is_live ch.start ≡ true
  pub halving : ch.halves ≡ halves p.role
  pub limit : is_stopped p.role ≡ false → LimitFits p.role (limit_of s p.role k ch.start) ch.limit

-- chunk y of thread k follows the older one, which is no piece: it began from the state that the older's commit will leave,
-- with the limit of the commit after that
pub record Follows (z : Numbers) (p : Sphere) (k : ℕ) (older y : Chunk) : Type 0 where
  pub deep : 1 < z.depth
  pub sphere : y.sphere ≡ older.sphere
  pub allowed : may_follow (replays p.role) older.closed ≡ true
  pub start : y.start ≡ counted older.done.thread
  pub halving : y.halves ≡ halves p.role
  pub limit : is_stopped p.role ≡ false → LimitFits p.role (limit_after z.s p.role k y.start) y.limit

-- core c holds a thread of a sphere that there is. Its older chunk is good over the current memory, and its younger one over
-- that with the older's stores
pub record IsGoodHeld (w : World) (c : ℕ) (h : Occupant) : Type 0 where
  pub sphere : h.chunk.sphere < length w.spheres
  pub thread : IsOfThread w.numbers.s (sphere_at w h.chunk.sphere) h.thread h.chunk
  pub chunk : IsGoodOver w c h.chunk.sphere [] h.chunk
  pub follows : (y : Chunk) → h.younger ≡ Some y → Follows w.numbers (sphere_at w h.chunk.sphere) h.thread h.chunk y
  pub younger : (y : Chunk) → h.younger ≡ Some y → IsGoodOver w c h.chunk.sphere h.chunk.done.words y

-- a thread is on one core at most
abbrev pub IsAlone : List (Option Occupant) → Type 0
IsAlone cores =
    (c d : ℕ) (h g : Occupant)
    → at cores c ≡ Some h
    → at cores d ≡ Some g
    → h.chunk.sphere ≡ g.chunk.sphere
    → h.thread ≡ g.thread
    → c ≡ d

-- ---- the world

-- no two flying words of a sphere are one, each flight is of a sphere that there is, and cores hold what they should
pub record IsGood (w : World) : Type 0 where
  pub buffer : 0 < w.numbers.capacity
  pub standard : 0 < w.numbers.s
  pub apart : (i : ℕ) → Apart (flying i w.slots)
  pub covered : AreCovered w.numbers.bits w.slots
  pub flights : (k : ℕ) (f : Flight) → at w.slots k ≡ Some f → f.sphere < length w.spheres
  pub held : (c : ℕ) (h : Occupant) → at w.cores c ≡ Some h → IsGoodHeld w c h
  pub alone : IsAlone w.cores
