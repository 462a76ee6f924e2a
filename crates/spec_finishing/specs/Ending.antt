-- What is promised of finishing: that it comes to an end, and how soon.
use Rattle.std.specs.Prelude.{◌≡◌, ℕ, ◌+◌, ◌*◌, ◌<◌, ◌≤◌, Bool, true, false, List, [], ◌∷◌, length, slice_get, Option, Some, None}
use Rattle.spec_engine.specs.Flights.{at}
use Rattle.spec_protocol.specs.declared.event.Event.{Event}
use Rattle.spec_protocol.specs.declared.reply.Reply.{Reply}
use Rattle.spec_sphere.specs.sphere.Spheres.{Role, Plain, Record, Replay, Sphere, is_over, replays}
use Rattle.spec_protocol.specs.machine.World.{World, Move, sphere_at}
use Rattle.spec_sphere.specs.sphere.Setups.{ReplaySetup, IsReplayed, SphereSetup}
use Rattle.spec_protocol.specs.machine.Machine.{Setup, world_of, happens, world_after, moves}
use Rattle.spec_protocol.specs.machine.Serial.{serial_start}
use Rattle.spec_protocol.specs.machine.Finishing.{Finishes}
use Rattle.spec_protocol.specs.promises.Promises.{IsSetup, after}
use Rattle.spec_sphere.specs.promises.Sound.{AreReplayableIf}
use Rattle.spec_finishing.specs.Work.{plays_work, moves_work}
use Rattle.spec_finishing.specs.Rank.{potential, under_way, rank}

-- the work of a run: that of the plays of its replayed spheres, and that of what its schedule did in the others
abbrev pub work : Setup → List Event → ℕ
work s es = plays_work s.spheres + moves_work s.numbers (serial_start s) (moves (world_of s) es)

-- the replies to events of finishing that did what they are for: none is bounced, denied, busy, full or out of turn
abbrev pub furthers_finishing : Reply → Bool
furthers_finishing Reply.Ran = true
furthers_finishing (Reply.Closed how) = true
furthers_finishing (Reply.Bounced k) = false
furthers_finishing Reply.Waiting = false
furthers_finishing Reply.Idle = false
furthers_finishing Reply.Stopped = false
furthers_finishing Reply.NothingRun = false
furthers_finishing Reply.Granted = true
furthers_finishing Reply.Piece = true
furthers_finishing Reply.NotClosed = false
furthers_finishing (Reply.NotTurn actor) = false
furthers_finishing Reply.WindowFull = false
furthers_finishing (Reply.Denied k) = false
furthers_finishing (Reply.SphereBusy k) = false
furthers_finishing Reply.Drained = true
furthers_finishing Reply.Clean = false
furthers_finishing Reply.Delivered = true
furthers_finishing Reply.Squashed = true
furthers_finishing Reply.Already = false
furthers_finishing Reply.Retired = true
furthers_finishing Reply.NotDone = false
furthers_finishing Reply.NoCommit = false
furthers_finishing Reply.Placed = true
furthers_finishing (Reply.Elsewhere c) = false
furthers_finishing Reply.NoThread = false
furthers_finishing Reply.Ended = false
furthers_finishing Reply.Raised = false
furthers_finishing Reply.Masked = false
furthers_finishing Reply.NoHandler = false
furthers_finishing Reply.FromLog = false
furthers_finishing Reply.DmaDone = true
furthers_finishing Reply.NoDma = false
furthers_finishing (Reply.Diverged i why) = true

-- each of these events furthers finishing and reduces what is left, which is never below 0
abbrev pub Falls : Setup → World → List Event → Type 0
Falls s w [] = under_way w ≤ potential s w
Falls s w (e ∷ es) =
    let a = happens w e in
    (under_way w ≤ potential s w)
    × (furthers_finishing a.reply ≡ true)
    × (rank s a.world < rank s w)
    × Falls s a.world es

-- what took effect, if anything did, was in a replayed sphere
abbrev pub OfReplay : World → Option Move → Type 0
OfReplay w None = Unit {0}
OfReplay w (Some m) = replays (sphere_at w m.sphere).role ≡ true

-- the same for each of these events
abbrev pub OfReplays : World → List Event → Type 0
OfReplays w [] = Unit {0}
OfReplays w (e ∷ es) = let a = happens w e in OfReplay w a.move × OfReplays a.world es

-- a replay has ended; plain and recorded spheres have no end to reach
abbrev pub IsAtEnd : Role → Type 0
IsAtEnd Plain = Unit {0}
IsAtEnd (Record recording) = Unit {0}
IsAtEnd (Replay b) = is_over b.now ≡ true

-- no flight is left, and every replay is complete or has diverged
pub record IsFinished (w : World) : Type 0 where
  pub flights : (k : ℕ) → at w.slots k ≡ None
  pub replays : (i : ℕ) (p : Sphere) → slice_get w.spheres i ≡ Some p → IsAtEnd p.role

-- these events and no others finish the world that this schedule leaves
pub record Ends (s : Setup) (es finishing : List Event) : Type 0 where
  pub finishes : Finishes (after s es) finishing
  pub only : (others : List Event) → Finishes (after s es) others → others ≡ finishing
  pub falls : Falls s (after s es) finishing
  pub alone : OfReplays (after s es) finishing
  -- for each unit of the run's work there are at most as many events as there are cores, plus six
  pub first : rank s (after s es) ≤ (s.cores + 6) * work s es
  pub few : length finishing ≤ (s.cores + 6) * work s es
  pub finished : IsFinished (world_after (after s es) finishing)

-- there are cores, and slots for flights, the standard size of each log that is replayed is over 0, and strata are parallel on
-- their images
pub record CanFinish (s : Setup) : Type 0 where
  pub setup : IsSetup s
  pub cores : 0 < s.cores
  pub window : 0 < s.window
  pub standard : (i : ℕ) (image : SphereSetup) (asked : ReplaySetup)
      → slice_get s.spheres i ≡ Some image
      → image.role ≡ IsReplayed asked
      → 0 < asked.log.s
  pub strata : (i : ℕ) (image : SphereSetup) (asked : ReplaySetup)
      → slice_get s.spheres i ≡ Some image
      → image.role ≡ IsReplayed asked
      → AreReplayableIf image.memory image.entry asked asked.strata

-- after any schedule
abbrev pub FinishingEnds : Type 0
FinishingEnds =
    (s : Setup) (es : List Event) → CanFinish s → (finishing : List Event) × Ends s es finishing
