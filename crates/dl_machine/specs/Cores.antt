-- A core in code.
use Rattle.std.specs.Prelude.{◌≡◌, ◌≤◌, ◌<◌, ◌+◌, ◌^◌, ℕ, Bool, true, false, not, ◌&&◌, nat_lt, Option, Some, None, slice_get}
use Rattle.spec_isa.specs.declared.thread.Parts.{Parts}
use Rattle.spec_kernel.specs.Interrupts.{is_live}
use Rattle.spec_engine.specs.declared.answers.How.{How}
use Rattle.spec_engine.specs.Signatures.{Signature, nothing}
use Rattle.spec_engine.specs.Chunks.{Chunk, is_open, may_follow}
use Rattle.spec_protocol.specs.machine.Asking.{promoted, was_interrupted}
use Rattle.spec_sphere.specs.sphere.Spheres.{Sphere}
use Rattle.spec_protocol.specs.machine.World.{Occupant, Numbers, held_afresh}
use Rattle.dl_chunk.specs.Pairs.{Pair, begins_younger, can_step}
use Rattle.dl_sphere.specs.SizedSpheres.{SizedSphere}
use Rattle.dl_machine.specs.declared.one_core.Held.{Held as Seen}

-- how large its chunks and their signatures may be, how many it may have, and what it holds
pub record Core : Type 0 where
  pub most : ℕ
  pub capacity : ℕ
  pub bits : ℕ
  pub depth : ℕ
  pub held : Option Occupant

abbrev pub held_if : (busy : Bool) → (thread : ℕ) → (older : Chunk) → (younger : Option Chunk) → Option Occupant
held_if false k ch younger = None
held_if true k ch younger = Some (record { thread = k; chunk = ch; younger = younger })

abbrev pub core_of : (busy : Bool) → (thread : ℕ) → Pair → Core
core_of busy k p =
    record { most = p.most; capacity = p.capacity; bits = p.older.reads.bits; depth = p.depth; held = held_if busy k p.older p.younger }

-- an idle core has noted nothing
abbrev pub IsAtRest : (busy : Bool) → Pair → Type 0
IsAtRest true p = Unit {0}
IsAtRest false p =
    (p.older.reads ≡ nothing p.older.reads.bits) × (p.older.writes ≡ nothing p.older.reads.bits) × (p.younger ≡ None)

abbrev pub idle : (most capacity bits depth : ℕ) → Core
idle most capacity bits depth = record { most = most; capacity = capacity; bits = bits; depth = depth; held = None }

-- with this in its hold
abbrev pub holding : Option Occupant → Core → Core
holding held c = record c { held = held }

-- what is seen of what a core holds
abbrev pub seen : Occupant → Seen
seen h = record { sphere = h.chunk.sphere; thread = h.thread; closed = not (is_open h.chunk) }

-- the numbers of a core and a sphere
abbrev pub numbers_of : Core → SizedSphere → Numbers
numbers_of c p = record { s = p.s; capacity = c.capacity; bits = c.bits; depth = c.depth }

-- thread k of sphere i, which is p, with a fresh chunk
abbrev pub afresh : Core → SizedSphere → (i thread : ℕ) → Option Occupant
afresh c p i k = held_afresh (numbers_of c p) i k p.sphere

-- the lines that are noted
abbrev pub reads_in : (bits : ℕ) → Option Occupant → Signature
reads_in bits None = nothing bits
reads_in bits (Some h) = h.chunk.reads

abbrev pub writes_in : (bits : ℕ) → Option Occupant → Signature
writes_in bits None = nothing bits
writes_in bits (Some h) = h.chunk.writes

-- ---- the two chunks

-- the chunks that are held, and what they are run on
abbrev pub pair_in : Core → Occupant → Pair
pair_in c h = record { most = c.most; capacity = c.capacity; depth = c.depth; older = h.chunk; younger = h.younger }

-- with these chunks
abbrev pub with_pair : Occupant → Pair → Occupant
with_pair h p = record h { chunk = p.older; younger = p.younger }

-- a chunk that was closed so has run up to its limit
abbrev pub is_whole : Option How → Bool
is_whole None = false
is_whole (Some How.Limit) = true
is_whole (Some How.Serial) = false
is_whole (Some How.Overflow) = false
is_whole (Some How.Cut) = false

-- where the older chunk is closed: no step runs the younger, if there is one, and none may begin
abbrev pub waits_for : (depth : ℕ) → (replays : Bool) → Occupant → Option Chunk → Bool
waits_for depth b h None = not (nat_lt 1 depth && may_follow b h.chunk.closed)
waits_for depth b h (Some y) = not (is_open y)

abbrev pub waits : (depth : ℕ) → (replays : Bool) → Occupant → Bool
waits depth b h = waits_for depth b h h.younger

-- a step runs one of its chunks; where a younger begins for that, it may have this limit, and its commits can be counted
pub record CanStep (limit : ℕ) (p : Pair) : Type 0 where
  pub runs : can_step p ≡ true
  pub least : begins_younger p ≡ true → 1 ≤ limit
  pub most : begins_younger p ≡ true → limit ≤ p.most
  pub commits : begins_younger p ≡ true → p.older.done.thread.commits + 1 < 2 ^ 32

abbrev pub CanStepHeld : (limit : ℕ) → Core → Option Occupant → Type 0
CanStepHeld limit c None = ⊥
CanStepHeld limit c (Some h) = CanStep limit (pair_in c h)

-- ---- a commit

-- the lines that the older chunk has stored to are given up
abbrev pub given_up : Occupant → Occupant
given_up h = record h { chunk = record h.chunk { writes = nothing h.chunk.reads.bits } }

-- the younger chunk goes on: there is one, and its thread lives and was not interrupted since it began
abbrev pub stays : (younger : Option Chunk) → Option Parts → Bool
stays None o = false
stays (Some y) None = false
stays (Some y) (Some t) = is_live t && not (was_interrupted y t)

-- what is held once the older chunk is committed, where its sphere is p
abbrev pub goes_on : Numbers → Sphere → Option Occupant → Option Occupant
goes_on z p None = None
goes_on z p (Some h) = promoted z h.chunk.sphere h.thread p h.younger (slice_get p.threads h.thread)
