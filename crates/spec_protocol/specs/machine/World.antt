-- The state of the whole machine.
use Rattle.std.specs.Prelude.{ℕ, Bool, ◌&&◌, nat_eq, List, slice_get, slice_set, slice_index_or, Option, Some, None, if◌then◌else◌}
use Rattle.dl_entry.specs.declared.Counts.{Counts}
use Rattle.dl_entry.specs.declared.Point.{Point}
use Rattle.spec_isa.specs.declared.thread.Parts.{Parts}
use Rattle.spec_isa.specs.Words.{Stored}
use Rattle.spec_kernel.specs.Devices.{Devices}
use Rattle.spec_kernel.specs.Interrupts.{is_live}
use Rattle.spec_engine.specs.declared.answers.How.{How}
use Rattle.spec_engine.specs.Signatures.{Signature}
use Rattle.spec_engine.specs.Flights.{Flight, first_slot, fill, has_none}
use Rattle.spec_engine.specs.Chunks.{Chunk, fresh}
use Rattle.spec_protocol.specs.declared.reply.Reply.{Reply}
use Rattle.spec_sphere.specs.sphere.Spheres.{Sphere, no_sphere, halves, limit_of}

-- the standard size of a chunk, the words that a write buffer holds, the bits of a signature, and how many chunks a core
-- may have at once
pub record Numbers : Type 0 where
  pub s : ℕ
  pub capacity : ℕ
  pub bits : ℕ
  pub depth : ℕ

-- what a core holds that isn't idle: a thread of the chunk's sphere, by its number, its running chunk, which is the older
-- one, and maybe a younger one, which follows it
pub record Occupant : Type 0 where
  pub thread : ℕ
  pub chunk : Chunk
  pub younger : Option Chunk

pub record World : Type 0 where
  pub numbers : Numbers
  pub spheres : List Sphere
  -- as many slots as the window has, and the cores
  pub slots : List (Option Flight)
  pub cores : List (Option Occupant)
  pub devices : Devices
  -- how many events there were, and their replies; and the serialisation points that they made
  pub counts : Counts
  pub points : List Point

-- the number of events before the next
abbrev pub moment : World → ℕ
moment w = w.counts.events

-- ---- rows

abbrev pub sphere_at : World → ℕ → Sphere
sphere_at w i = slice_index_or w.spheres i no_sphere

abbrev pub with_sphere : World → ℕ → Sphere → World
with_sphere w i p = record w { spheres = slice_set w.spheres i p }

abbrev pub with_memory : World → ℕ → List ℕ → World
with_memory w i m = with_sphere w i (record (sphere_at w i) { memory = m })

abbrev pub with_core : World → ℕ → Option Occupant → World
with_core w c held = record w { cores = slice_set w.cores c held }

abbrev pub with_slot : World → ℕ → Option Flight → World
with_slot w k slot = record w { slots = slice_set w.slots k slot }

-- ---- threads on cores

-- a chunk of thread k of sphere i, which is p, with a fresh limit; none where the thread isn't live
abbrev pub thread_afresh : Numbers → (i thread : ℕ) → Sphere → Option Parts → Option Occupant
thread_afresh z i k p None = None
thread_afresh z i k p (Some t) =
    if is_live t
    then Some (record { thread = k; chunk = fresh z.bits i t (limit_of z.s p.role k t) (halves p.role); younger = None })
    else None

abbrev pub held_afresh : Numbers → (i thread : ℕ) → Sphere → Option Occupant
held_afresh z i k p = thread_afresh z i k p (slice_get p.threads k)

-- whether a core runs thread k of sphere i
abbrev pub runs : (i thread : ℕ) → Occupant → Bool
runs i k h = nat_eq h.chunk.sphere i && nat_eq h.thread k

-- the core that does
abbrev pub core_of : World → (i thread : ℕ) → Option ℕ
core_of w i k = first_slot (runs i k) w.cores

-- ---- flights

-- the words of sphere i's commit fly in the least free slot, if there are any
abbrev pub flown : (i : ℕ) → List Stored → Signature → (told : ℕ) → List (Option Flight) → List (Option Flight)
flown i words writes told slots =
    if has_none words then slots
    else fill (record { sphere = i; words = words; writes = writes; told = told }) slots

-- ---- what an event comes to

-- what took effect at a moment in a sphere, in full: a chunk of a thread, how it was closed, its instructions and its
-- limit; a serial step; a DMA; or an interrupt. A divergence is told too
pub data MoveKind : Type 0 where
  OfChunk : (thread : ℕ) (how : How) (n limit : ℕ) → MoveKind
  OfSerial : (thread : ℕ) → MoveKind
  OfDma : MoveKind
  OfRaise : (thread value : ℕ) → MoveKind

pub record Move : Type 0 where
  pub moment : ℕ
  pub sphere : ℕ
  pub what : MoveKind

-- the reply, the world before it is counted, the serialisation point, and the move
pub record EventOutcome : Type 0 where
  pub reply : Reply
  pub world : World
  pub point : Option Point
  pub move : Option Move

-- an answer, and the world that it leaves: no commit and no interrupt took effect
abbrev pub answered : World → Reply → EventOutcome
answered w reply = record { reply = reply; world = w; point = None; move = None }
