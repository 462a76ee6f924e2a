-- Finishing: after the schedule flights are made visible, and replays go on to their ends.
use Rattle.std.specs.Prelude.{◌≡◌, ℕ, zero, suc, true, List, [], ◌∷◌, ◌++◌, length, Option, Some, None, if◌then◌else◌}
use Rattle.dl_entry.specs.declared.Actor.{Actor}
use Rattle.dl_entry.specs.declared.Point.{Point}
use Rattle.spec_isa.specs.Words.{Stored}
use Rattle.spec_engine.specs.Flights.{Flight, at, first_slot, told_at}
use Rattle.spec_engine.specs.Chunks.{is_open}
use Rattle.spec_protocol.specs.declared.event.Event.{Event}
use Rattle.spec_sphere.specs.sphere.Spheres.{Role, Plain, Record, Replay, Sphere, actor_of}
use Rattle.spec_protocol.specs.machine.World.{World, Occupant, core_of}
use Rattle.spec_protocol.specs.machine.Machine.{Setup, world_of, happens, world_after}

-- ---- a standing flight

-- the least of so many cores, from c on, that was not told
abbrev pub untold : (core cores : ℕ) → (told : ℕ) → Option ℕ
untold c zero t = None
untold c (suc n) t = if told_at t c then untold (suc c) n t else Some c

abbrev pub deliver_or_retire : (slot : ℕ) → Option ℕ → Event
deliver_or_retire k None = Event.Retire k
deliver_or_retire k (Some c) = Event.Deliver c k

-- words are drained while there are any, then the cores are told, then the slot is freed
abbrev pub for_flight : (cores slot : ℕ) → Flight → (words : List Stored) → Event
for_flight cores k f [] = deliver_or_retire k (untold 0 cores f.told)
for_flight cores k f (s ∷ ss) = Event.Drain k

-- the least slot with a flight
abbrev pub standing : World → Option ℕ
standing w = first_slot (λ f. true) w.slots

-- ---- a replay that goes on

-- a sphere, and the actor whose turn it is there
pub record SphereTurn : Type 0 where
  pub sphere : ℕ
  pub actor : Actor

abbrev pub named_turn : (i : ℕ) → Option Actor → Option SphereTurn → Option SphereTurn
named_turn i None others = others
named_turn i (Some actor) others = Some (record { sphere = i; actor = actor })

abbrev pub turn_of_role : (i : ℕ) → Role → Option SphereTurn → Option SphereTurn
turn_of_role i Plain others = others
turn_of_role i (Record recording) others = others
turn_of_role i (Replay b) others = named_turn i (actor_of b.now) others

-- of the spheres from i on the least replay that has not stopped
abbrev pub least : (i : ℕ) → List Sphere → Option SphereTurn
least i [] = None
least i (p ∷ ps) = turn_of_role i p.role (least (suc i) ps)

abbrev pub for_held : (core : ℕ) → Option Occupant → Option Event
for_held c None = None
for_held c (Some h) = Some (if is_open h.chunk then Event.Step c else Event.Ask c)

abbrev pub for_core : World → (i thread : ℕ) → Option ℕ → Option Event
for_core w i k None = Some (Event.Place 0 i k)
for_core w i k (Some c) = for_held c (at w.cores c)

-- a thread is placed on core 0 where it is on no core; an open chunk is stepped, and a closed one asks
abbrev pub for_actor : World → (i : ℕ) → Actor → Option Event
for_actor w i Actor.Dma = Some (Event.Dma i)
for_actor w i (Actor.Thread k) = for_core w i k (core_of w i k)

abbrev pub for_turn : World → Option SphereTurn → Option Event
for_turn w None = None
for_turn w (Some who) = for_actor w who.sphere who.actor

-- ---- the next event

abbrev pub for_slot : World → (slot : ℕ) → Option Flight → Option Event
for_slot w k None = None
for_slot w k (Some f) = Some (for_flight (length w.cores) k f f.words)

abbrev pub for_standing : World → Option ℕ → Option Event
for_standing w None = for_turn w (least 0 w.spheres)
for_standing w (Some k) = for_slot w k (at w.slots k)

-- none where no flight stands and every replay has stopped
unfoldable pub next : World → Option Event
next w = for_standing w (standing w)

-- these events finish the world: each is the next one, and none is left after the last. At most one list does
abbrev pub Finishes : World → List Event → Type 0
Finishes w [] = next w ≡ None
Finishes w (e ∷ es) = (next w ≡ Some e) × Finishes (happens w e).world es

-- the points of a schedule and of the events that finish it
abbrev pub points_of : Setup → (schedule finishing : List Event) → List Point
points_of s schedule finishing = (world_after (world_of s) (schedule ++ finishing)).points

-- which events finish it
abbrev pub FinishesAfter : Setup → (schedule finishing : List Event) → Type 0
FinishesAfter s schedule finishing = Finishes (world_after (world_of s) schedule) finishing
