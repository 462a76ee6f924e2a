-- The machine: how it starts, and what any event answers and leaves.
use Rattle.std.specs.Prelude.{ℕ, zero, suc, ◌%◌, List, [], ◌∷◌, ◌++◌, length, map, replicate, Option, Some, None}
use Rattle.dl_entry.specs.declared.Point.{Point}
use Rattle.dl_entry.specs.declared.ReplyName.{ReplyName}
use Rattle.dl_entry.specs.Counts.{no_counts, counted}
use Rattle.spec_kernel.specs.Devices.{devices_of}
use Rattle.spec_protocol.specs.declared.event.Event.{Event}
use Rattle.spec_protocol.specs.declared.reply.Reply.{Reply}
use Rattle.spec_sphere.specs.sphere.Spheres.{Sphere}
use Rattle.spec_protocol.specs.machine.World.{Numbers, Occupant, World, held_afresh, EventOutcome, Move}
use Rattle.spec_protocol.specs.machine.Stepping.{stepping, cutting}
use Rattle.spec_protocol.specs.machine.Asking.{asking}
use Rattle.spec_protocol.specs.machine.Flying.{draining, delivering, retiring}
use Rattle.spec_protocol.specs.machine.Placing.{placing, raising}
use Rattle.spec_protocol.specs.machine.Transferring.{transferring}
use Rattle.spec_sphere.specs.sphere.Setups.{SphereSetup, sphere_of}

-- ---- the start

pub record Setup : Type 0 where
  pub cores : ℕ
  pub window : ℕ
  pub numbers : Numbers
  pub seed : ℕ
  pub input : List ℕ
  pub spheres : List SphereSetup

-- ---- the machine

-- so many cores from sphere i on: each holds thread 0 of its own sphere, or is idle if there are fewer spheres
abbrev pub first_cores : Numbers → (i : ℕ) → (cores : ℕ) → List Sphere → List (Option Occupant)
first_cores z i zero ps = []
first_cores z i (suc n) [] = None ∷ first_cores z (suc i) n []
first_cores z i (suc n) (p ∷ ps) = held_afresh z i 0 p ∷ first_cores z (suc i) n ps

-- before the first event
abbrev pub world_of : Setup → World
world_of s =
    let spheres = map (sphere_of s.numbers.s) s.spheres in
    record {
      numbers = s.numbers;
      spheres = spheres;
      slots = replicate s.window None;
      cores = first_cores s.numbers 0 s.cores spheres;
      devices = devices_of s.input s.seed;
      counts = no_counts;
      points = [];
    }

-- ---- an event

-- numbers are taken modulo how many there are
abbrev pub core_no : World → ℕ → ℕ
core_no w c = c % length w.cores

abbrev pub sphere_no : World → ℕ → ℕ
sphere_no w i = i % length w.spheres

abbrev pub slot_no : World → ℕ → ℕ
slot_no w k = k % length w.slots

-- what the event answers and leaves, before it is counted
unfoldable pub act : World → Event → EventOutcome
act w (Event.Step c) = stepping w (core_no w c)
act w (Event.Cut c) = cutting w (core_no w c)
act w (Event.Ask c) = asking w (core_no w c)
act w (Event.Drain k) = draining w (slot_no w k)
act w (Event.Deliver c k) = delivering w (core_no w c) (slot_no w k)
act w (Event.Retire k) = retiring w (slot_no w k)
act w (Event.Place c i k) = placing w (core_no w c) (sphere_no w i) k
act w (Event.Raise i k value) = raising w (sphere_no w i) k value
act w (Event.Dma i) = transferring w (sphere_no w i)

abbrev pub name_of : Reply → ReplyName
name_of Reply.Ran = ReplyName.Ran
name_of (Reply.Closed how) = ReplyName.Closed
name_of (Reply.Bounced k) = ReplyName.Bounced
name_of Reply.Waiting = ReplyName.Waiting
name_of Reply.Idle = ReplyName.Idle
name_of Reply.Stopped = ReplyName.Stopped
name_of Reply.NothingRun = ReplyName.NothingRun
name_of Reply.Granted = ReplyName.Granted
name_of Reply.Piece = ReplyName.Piece
name_of Reply.NotClosed = ReplyName.NotClosed
name_of (Reply.NotTurn actor) = ReplyName.NotTurn
name_of Reply.WindowFull = ReplyName.WindowFull
name_of (Reply.Denied k) = ReplyName.Denied
name_of (Reply.SphereBusy k) = ReplyName.SphereBusy
name_of Reply.Drained = ReplyName.Drained
name_of Reply.Clean = ReplyName.Clean
name_of Reply.Delivered = ReplyName.Delivered
name_of Reply.Squashed = ReplyName.Squashed
name_of Reply.Already = ReplyName.Already
name_of Reply.Retired = ReplyName.Retired
name_of Reply.NotDone = ReplyName.NotDone
name_of Reply.NoCommit = ReplyName.NoCommit
name_of Reply.Placed = ReplyName.Placed
name_of (Reply.Elsewhere c) = ReplyName.Elsewhere
name_of Reply.NoThread = ReplyName.NoThread
name_of Reply.Ended = ReplyName.Ended
name_of Reply.Raised = ReplyName.Raised
name_of Reply.Masked = ReplyName.Masked
name_of Reply.NoHandler = ReplyName.NoHandler
name_of Reply.FromLog = ReplyName.FromLog
name_of Reply.DmaDone = ReplyName.DmaDone
name_of Reply.NoDma = ReplyName.NoDma
name_of (Reply.Diverged i why) = ReplyName.Diverged

abbrev pub with_point : Option Point → List Point → List Point
with_point None points = points
with_point (Some point) points = points ++ point ∷ []

-- the event is counted with its reply, and its point is kept
abbrev pub with_event : EventOutcome → World
with_event a =
    record a.world { counts = counted a.world.counts (name_of a.reply); points = with_point a.point a.world.points }

-- one event
unfoldable pub happens : World → Event → EventOutcome
happens w e = let a = act w e in record a { world = with_event a }

-- ---- schedules

-- the world after these events, in their order
abbrev pub world_after : World → List Event → World
world_after w [] = w
world_after w (e ∷ es) = world_after (happens w e).world es

-- what took effect, in its order
abbrev pub with_move : Option Move → List Move → List Move
with_move None ms = ms
with_move (Some m) ms = m ∷ ms

abbrev pub moves : World → List Event → List Move
moves w [] = []
moves w (e ∷ es) = let a = happens w e in with_move a.move (moves a.world es)
