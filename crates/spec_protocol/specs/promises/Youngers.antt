-- When a younger chunk begins, when a flight hits it alone, and when an interrupt abandons it.
use Rattle.std.specs.Prelude.{◌≡◌, ◌↔◌, ℕ, ◌<◌, true, false, List, Option, Some, None}
use Rattle.spec_play.specs.Effects.{counted}
use Rattle.spec_play.specs.Verdicts.{interrupt_at}
use Rattle.spec_engine.specs.Flights.{Flight, at, meets_chunk, told_at}
use Rattle.spec_engine.specs.Chunks.{Chunk, may_follow, squash}
use Rattle.spec_protocol.specs.declared.event.Event.{Event}
use Rattle.spec_protocol.specs.declared.reply.Reply.{Reply}
use Rattle.spec_sphere.specs.sphere.Spheres.{Role, Plain, Record, Replay, is_stopped, replays}
use Rattle.spec_protocol.specs.machine.World.{Occupant, World, sphere_at}
use Rattle.spec_protocol.specs.machine.Machine.{Setup, core_no, slot_no, happens}
use Rattle.spec_protocol.specs.promises.Promises.{IsSetup, after}

-- ---- where one begins

-- core c holds two chunks
pub record HasTwo (w : World) (c : ℕ) : Type 0 where
  pub held : Occupant
  pub there : at w.cores c ≡ Some held
  pub younger : Chunk
  pub is : held.younger ≡ Some younger

-- the event is a step of core c, in a machine of depth 2; its sphere goes on, and its chunk was closed so that one may follow
pub record Begins (w : World) (e : Event) (c : ℕ) (h : Occupant) : Type 0 where
  pub core : ℕ
  pub step : e ≡ Event.Step core
  pub number : core_no w core ≡ c
  pub deep : 1 < w.numbers.depth
  pub going : is_stopped (sphere_at w h.chunk.sphere).role ≡ false
  pub allowed : may_follow (replays (sphere_at w h.chunk.sphere).role) h.chunk.closed ≡ true

-- a core that holds one chunk holds two after an event exactly if that is such a step
abbrev pub YoungersBegin : Type 0
YoungersBegin =
    (w : World) (e : Event) (c : ℕ) (h : Occupant) → at w.cores c ≡ Some h → h.younger ≡ None
    → HasTwo (happens w e).world c ↔ Begins w e c h

-- ---- hits

-- core c holds h with the younger chunk y, and wasn't told of the flight in slot k, which hits y and not the older chunk
pub record HitsYounger (w : World) (c k : ℕ) (h : Occupant) (y : Chunk) : Type 0 where
  pub there : at w.cores c ≡ Some h
  pub younger : h.younger ≡ Some y
  pub flight : Flight
  pub flies : at w.slots k ≡ Some flight
  pub untold : told_at flight.told c ≡ false
  pub misses : meets_chunk h.chunk.reads h.chunk.writes flight ≡ false
  pub hits : meets_chunk y.reads y.writes flight ≡ true

-- then the younger one alone begins again, and the older stays as it is
abbrev pub HitsSpareTheOlder : Type 0
HitsSpareTheOlder =
    (w : World) (c k : ℕ) (h : Occupant) (y : Chunk) → HitsYounger w (core_no w c) (slot_no w k) h y
    → let a = happens w (Event.Deliver c k) in
    (a.reply ≡ Reply.Squashed) × (at a.world.cores (core_no w c) ≡ Some (record h { younger = Some (squash y) }))

-- ---- interrupts

-- the value of the interrupt that a replay's log has after the commit of thread k's chunk, if it has one
abbrev pub interrupt_after : Role → (thread : ℕ) → Chunk → Option ℕ
interrupt_after Plain k ch = None
interrupt_after (Record recording) k ch = None
interrupt_after (Replay b) k ch = interrupt_at b.log.interrupts k (counted ch.done.thread).commits

-- After a granted ask the younger chunk is the core's older one exactly if no interrupt of the log was taken; otherwise it is
-- abandoned.
abbrev pub InterruptsAbandon : Type 0
InterruptsAbandon =
    (s : Setup) (es : List Event) (c : ℕ) (h : Occupant) (y : Chunk) → IsSetup s
    → let w = after s es in at w.cores (core_no w c) ≡ Some h → h.younger ≡ Some y
    → let a = happens w (Event.Ask c) in a.reply ≡ Reply.Granted
    → (at a.world.cores (core_no w c) ≡ Some (record { thread = h.thread; chunk = y; younger = None }))
    ↔ (interrupt_after (sphere_at w h.chunk.sphere).role h.thread h.chunk ≡ None)
