-- Where points are made, and which asks are granted: said by replies alone.
use Rattle.std.specs.Prelude.{◌≡◌, ℕ, ◌<◌, ◌/◌, ◌⊎◌, Bool, true, false, List, [], ◌∷◌, is_some, Option, Some, None}
use Rattle.dl_entry.specs.declared.Actor.{Actor}
use Rattle.dl_entry.specs.declared.Point.{Point}
use Rattle.dl_entry.specs.Counts.{counted}
use Rattle.spec_isa.specs.declared.thread.Load.{Load}
use Rattle.spec_isa.specs.Words.{Stored, Lacks}
use Rattle.spec_log.specs.declared.ModeName.{ModeName}
use Rattle.spec_engine.specs.declared.answers.How.{How}
use Rattle.spec_engine.specs.Flights.{Flight, at}
use Rattle.spec_protocol.specs.declared.event.Event.{Event}
use Rattle.spec_protocol.specs.declared.reply.Reply.{Reply}
use Rattle.spec_sphere.specs.sphere.Spheres.{Role, Plain, Record, Replay, replays}
use Rattle.spec_protocol.specs.machine.World.{Occupant, World, moment, sphere_at}
use Rattle.spec_protocol.specs.machine.Machine.{Setup, name_of, core_no, with_point, happens}
use Rattle.spec_play.specs.Touching.{AllLack}
use Rattle.spec_protocol.specs.promises.Promises.{IsSetup, after}

-- ---- where points are made

-- the replies of what takes effect
abbrev pub makes_point : Reply → Bool
makes_point Reply.Ran = false
makes_point (Reply.Closed how) = false
makes_point (Reply.Bounced k) = false
makes_point Reply.Waiting = false
makes_point Reply.Idle = false
makes_point Reply.Stopped = false
makes_point Reply.NothingRun = false
makes_point Reply.Granted = true
makes_point Reply.Piece = true
makes_point Reply.NotClosed = false
makes_point (Reply.NotTurn actor) = false
makes_point Reply.WindowFull = false
makes_point (Reply.Denied k) = false
makes_point (Reply.SphereBusy k) = false
makes_point Reply.Drained = false
makes_point Reply.Clean = false
makes_point Reply.Delivered = false
makes_point Reply.Squashed = false
makes_point Reply.Already = false
makes_point Reply.Retired = false
makes_point Reply.NotDone = false
makes_point Reply.NoCommit = false
makes_point Reply.Placed = false
makes_point (Reply.Elsewhere c) = false
makes_point Reply.NoThread = false
makes_point Reply.Ended = false
makes_point Reply.Raised = true
makes_point Reply.Masked = false
makes_point Reply.NoHandler = false
makes_point Reply.FromLog = false
makes_point Reply.DmaDone = true
makes_point Reply.NoDma = false
makes_point (Reply.Diverged i why) = false

-- a point of that moment, if there is one
abbrev pub IsAt : (now : ℕ) → Option Point → Type 0
IsAt now None = Unit {0}
IsAt now (Some (Point.Commit moment i actor kind size short)) = moment ≡ now
IsAt now (Some (Point.Raise moment i k value)) = moment ≡ now

-- an event makes a point exactly where it answers so, of its own moment; the point is kept after the earlier ones, and
-- the event is counted with its reply
pub record MakesPoint (w : World) (e : Event) : Type 0 where
  pub exactly : is_some (happens w e).point ≡ makes_point (happens w e).reply
  pub moment : IsAt (moment w) (happens w e).point
  pub kept : (happens w e).world.points ≡ with_point (happens w e).point w.points
  pub counted : (happens w e).world.counts ≡ counted w.counts (name_of (happens w e).reply)

abbrev pub PointsAreMade : Type 0
PointsAreMade = (w : World) (e : Event) → MakesPoint w e

-- ---- which asks are granted

-- a recording in picolog
abbrev pub IsInTurns : Role → Type 0
IsInTurns Plain = ⊥
IsInTurns (Record recording) = recording.log.mode ≡ ModeName.Picolog
IsInTurns (Replay b) = ⊥

-- core c holds a closed chunk of a plain or recorded sphere, and no flight stands
pub record CanAsk (w : World) (c : ℕ) (h : Occupant) (how : How) : Type 0 where
  pub there : at w.cores (core_no w c) ≡ Some h
  pub closed : h.chunk.closed ≡ Some how
  pub live : replays (sphere_at w h.chunk.sphere).role ≡ false
  pub clear : (k : ℕ) → at w.slots k ≡ None

-- granted, or it is another's turn in such a recording
abbrev pub IsGranted : Reply → Role → Type 0
IsGranted reply role =
    (reply ≡ Reply.Granted) ⊎ ((actor : Actor) × (reply ≡ Reply.NotTurn actor) × IsInTurns role)

abbrev pub AsksAreGranted : Type 0
AsksAreGranted =
    (s : Setup) (es : List Event) → IsSetup s → 0 < s.window
    → let w = after s es in (c : ℕ) (h : Occupant) (how : How) → CanAsk w c h how
    → IsGranted (happens w (Event.Ask c)).reply (sphere_at w h.chunk.sphere).role

-- no load is of a word among these
abbrev pub LoadsLack : List Load → List Stored → Type 0
LoadsLack [] ws = Unit {0}
LoadsLack (l ∷ ls) ws = Lacks (l.addr / 4) ws × LoadsLack ls ws

-- no word that the chunk stored or loaded is left in the flight
pub record IsClearOf (h : Occupant) (f : Flight) : Type 0 where
  pub stores : AllLack h.chunk.done.words f.words
  pub loads : LoadsLack h.chunk.done.loads f.words

-- no ask is granted where a word that the chunk loaded or stored is left in a flight of its sphere
abbrev pub GrantsAreClear : Type 0
GrantsAreClear =
    (s : Setup) (es : List Event) → IsSetup s
    → let w = after s es in (c : ℕ) (h : Occupant) → at w.cores (core_no w c) ≡ Some h
    → makes_point (happens w (Event.Ask c)).reply ≡ true
    → (k : ℕ) (f : Flight) → at w.slots k ≡ Some f → f.sphere ≡ h.chunk.sphere → IsClearOf h f
