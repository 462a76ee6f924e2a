-- The event Dma.
use Rattle.std.specs.Prelude.{ℕ, false, Option, Some, None, if◌then◌else◌}
use Rattle.dl_entry.specs.declared.Actor.{Actor}
use Rattle.dl_entry.specs.declared.CommitKind.{CommitKind}
use Rattle.dl_entry.specs.declared.Point.{Point}
use Rattle.spec_engine.specs.Signatures.{Signature, nothing, signed}
use Rattle.spec_engine.specs.Flights.{is_full}
use Rattle.spec_engine.specs.Asking.{ask}
use Rattle.spec_protocol.specs.declared.reply.Reply.{Reply}
use Rattle.spec_sphere.specs.sphere.Spheres.{is_stopped, turn_against}
use Rattle.spec_sphere.specs.sphere.Commits.{CommitOutcome, Granted, Piece, Diverged, MovedSphere, dma_moved}
use Rattle.spec_protocol.specs.machine.World.{World, moment, sphere_at, with_sphere, flown, OfDma, Move, EventOutcome, answered}
use Rattle.spec_protocol.specs.machine.Asking.{unless_denied, unless_turn}

abbrev pub dma_move : World → (i : ℕ) → Move
dma_move w i = record { moment = moment w; sphere = i; what = OfDma }

-- no core is told yet
abbrev pub dma_done : World → (i : ℕ) → Signature → MovedSphere → EventOutcome
dma_done w i writes v =
    record {
      reply = Reply.DmaDone;
      world = record w {
        spheres = (with_sphere w i v.sphere).spheres;
        slots = flown i v.words writes 0 w.slots;
        devices = v.devices;
      };
      point = Some (Point.Commit (moment w) i Actor.Dma CommitKind.Dma 0 false);
      move = Some (dma_move w i);
    }

-- its stores are denied where they hit a flight
unfoldable pub transfer : World → (i : ℕ) → MovedSphere → EventOutcome
transfer w i v =
    let writes = signed i v.words (nothing w.numbers.bits) in
    if is_full w.slots then answered w Reply.WindowFull
    else unless_denied (ask writes writes w.slots) w (dma_done w i writes v)

abbrev pub dma_with : World → (i : ℕ) → MovedSphere → CommitOutcome → EventOutcome
dma_with w i v Granted = transfer w i v
dma_with w i v Piece = transfer w i v
dma_with w i v (Diverged j why) =
    record {
      reply = Reply.Diverged j why;
      world = with_sphere w i v.sphere;
      point = None;
      move = Some (dma_move w i);
    }

abbrev pub dma_if : World → (i : ℕ) → Option MovedSphere → EventOutcome
dma_if w i None = answered w Reply.NoDma
dma_if w i (Some v) = dma_with w i v v.outcome

-- the outstanding request of sphere i is done
unfoldable pub transferring : World → (i : ℕ) → EventOutcome
transferring w i =
    let p = sphere_at w i in
    if is_stopped p.role then answered w Reply.Stopped
    else unless_turn (turn_against p Actor.Dma) w (dma_if w i (dma_moved w.devices p))
