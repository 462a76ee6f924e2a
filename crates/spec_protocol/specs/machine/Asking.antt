-- The event Ask: a closed chunk is to be committed, or a serial step to be done.
use Rattle.std.specs.Prelude.{ℕ, ◌^◌, Bool, true, false, not, ◌&&◌, slice_get, Option, Some, None, if◌then◌else◌}
use Rattle.dl_entry.specs.declared.Actor.{Actor}
use Rattle.dl_entry.specs.declared.CommitKind.{CommitKind}
use Rattle.dl_entry.specs.declared.Point.{Point}
use Rattle.spec_isa.specs.declared.thread.Parts.{Parts}
use Rattle.spec_kernel.specs.Interrupts.{is_live}
use Rattle.spec_engine.specs.declared.answers.How.{How}
use Rattle.spec_engine.specs.declared.answers.Asked.{Asked}
use Rattle.spec_engine.specs.declared.answers.AskedSerial.{AskedSerial}
use Rattle.spec_engine.specs.Signatures.{Signature, nothing, signed}
use Rattle.spec_engine.specs.Flights.{at, is_full}
use Rattle.spec_engine.specs.Chunks.{Chunk, is_empty_serial}
use Rattle.spec_engine.specs.Asking.{ask, ask_serial}
use Rattle.spec_protocol.specs.declared.reply.Reply.{Reply}
use Rattle.spec_sphere.specs.sphere.Spheres.{turn_against, Role, Sphere, is_stopped, is_in_pieces}
use Rattle.spec_sphere.specs.sphere.Commits.{CommitOutcome, Granted, Piece, Diverged, MovedSphere, chunk_moved, serial_moved}
use Rattle.spec_engine.specs.Closing.{is_piece, is_short}
use Rattle.spec_protocol.specs.machine.World.{Numbers, World, Occupant, moment, sphere_at, with_sphere, with_core, thread_afresh, flown, MoveKind, OfChunk, OfSerial, Move, EventOutcome, answered}

-- ---- a granted request

-- a request of a core: its sphere and thread, what it is in full, its kind as a point, its instructions, whether its
-- chunk was closed before its standard size, and the younger chunk that follows it
pub record CommitRequest : Type 0 where
  pub sphere : ℕ
  pub thread : ℕ
  pub what : MoveKind
  pub kind : CommitKind
  pub n : ℕ
  pub short : Bool
  pub younger : Option Chunk

abbrev pub point_at : (moment : ℕ) → CommitRequest → CommitKind → Point
point_at now q kind = Point.Commit now q.sphere (Actor.Thread q.thread) kind q.n q.short

abbrev pub move_at : (moment : ℕ) → CommitRequest → Move
move_at now q = record { moment = now; sphere = q.sphere; what = q.what }

-- the thread has taken an interrupt since its younger chunk began
abbrev pub was_interrupted : Chunk → Parts → Bool
was_interrupted y t = t.mask && not y.start.mask

-- the younger chunk becomes the older; if there is none, or after an interrupt, a new one begins
abbrev pub promoted : Numbers → (i thread : ℕ) → Sphere → (younger : Option Chunk) → Option Parts → Option Occupant
promoted z i k p None o = thread_afresh z i k p o
promoted z i k p (Some y) None = None
promoted z i k p (Some y) (Some t) =
    if is_live t && not (was_interrupted y t)
    then Some (record { thread = k; chunk = y; younger = None })
    else thread_afresh z i k p (Some t)

-- what a core goes on with after its granted request, where the sphere is p
abbrev pub goes_on_with : Numbers → CommitRequest → Sphere → Option Occupant
goes_on_with z q p = promoted z q.sphere q.thread p q.younger (slice_get p.threads q.thread)

-- the words fly, and the core, which is told, goes on with its thread as it is now
abbrev pub world_with : World → (core : ℕ) → CommitRequest → Signature → MovedSphere → World
world_with w c q writes v =
    record w {
      spheres = (with_sphere w q.sphere v.sphere).spheres;
      slots = flown q.sphere v.words writes (2 ^ c) w.slots;
      cores = (with_core w c (goes_on_with w.numbers q v.sphere)).cores;
      devices = v.devices;
    }

abbrev pub granted : World → (core : ℕ) → CommitRequest → Signature → MovedSphere → CommitOutcome → EventOutcome
granted w c q writes v Granted =
    record {
      reply = Reply.Granted;
      world = world_with w c q writes v;
      point = Some (point_at (moment w) q q.kind);
      move = Some (move_at (moment w) q);
    }
granted w c q writes v Piece =
    record {
      reply = Reply.Piece;
      world = world_with w c q writes v;
      point = Some (point_at (moment w) q CommitKind.Piece);
      move = Some (move_at (moment w) q);
    }
granted w c q writes v (Diverged i why) =
    record {
      reply = Reply.Diverged i why;
      world = with_sphere w q.sphere v.sphere;
      point = None;
      move = Some (move_at (moment w) q);
    }

-- ---- a chunk

abbrev pub chunk_request : World → Occupant → How → CommitRequest
chunk_request w h how =
    let ch = h.chunk in
    record {
      sphere = ch.sphere;
      thread = h.thread;
      what = OfChunk h.thread how ch.done.n ch.limit;
      kind = CommitKind.Chunk;
      n = ch.done.n;
      short = is_short w.numbers.s how ch.limit;
      younger = h.younger;
    }

unfoldable pub grant_chunk : World → (core : ℕ) → Occupant → How → EventOutcome
grant_chunk w c h how =
    let q = chunk_request w h how in
    let v = chunk_moved h.thread (is_piece how) q.short h.chunk.done w.devices (sphere_at w h.chunk.sphere) in
    granted w c q h.chunk.writes v v.outcome

abbrev pub unless_denied : Asked → World → EventOutcome → EventOutcome
unless_denied Asked.Grant w a = a
unless_denied (Asked.Denied k) w a = answered w (Reply.Denied k)

-- ---- a serial step

abbrev pub serial_request : Occupant → CommitRequest
serial_request h =
    record {
      sphere = h.chunk.sphere;
      thread = h.thread;
      what = OfSerial h.thread;
      kind = CommitKind.Serial;
      n = 0;
      short = false;
      younger = None;
    }

-- the thread has run nothing since its last commit
unfoldable pub grant_serial : World → (core : ℕ) → Occupant → EventOutcome
grant_serial w c h =
    let i = h.chunk.sphere in
    let v = serial_moved h.thread (moment w) h.chunk.start w.devices (sphere_at w i) in
    granted w c (serial_request h) (signed i v.words (nothing w.numbers.bits)) v v.outcome

abbrev pub unless_busy : AskedSerial → World → EventOutcome → EventOutcome
unless_busy AskedSerial.Grant w a = a
unless_busy (AskedSerial.SphereBusy k) w a = answered w (Reply.SphereBusy k)

-- ---- the event

-- a chunk that met a serial instruction before any other, and no piece stands before it
abbrev pub asks_serial : Chunk → Role → Bool
asks_serial ch role = is_empty_serial ch && not (is_in_pieces role)

abbrev pub ask_arbiter : World → (core : ℕ) → Occupant → How → (serial : Bool) → EventOutcome
ask_arbiter w c h how true = unless_busy (ask_serial h.chunk.sphere w.slots) w (grant_serial w c h)
ask_arbiter w c h how false = unless_denied (ask h.chunk.reads h.chunk.writes w.slots) w (grant_chunk w c h how)

abbrev pub unless_turn : Option Actor → World → EventOutcome → EventOutcome
unless_turn None w a = a
unless_turn (Some actor) w a = answered w (Reply.NotTurn actor)

abbrev pub ask_closed : World → (core : ℕ) → Occupant → Option How → EventOutcome
ask_closed w c h None = answered w Reply.NotClosed
ask_closed w c h (Some how) =
    let p = sphere_at w h.chunk.sphere in
    if is_stopped p.role then answered w Reply.Stopped
    else unless_turn (turn_against p (Actor.Thread h.thread)) w
    (if is_full w.slots then answered w Reply.WindowFull
    else ask_arbiter w c h how (asks_serial h.chunk p.role))

abbrev pub ask_held : World → (core : ℕ) → Option Occupant → EventOutcome
ask_held w c None = answered w Reply.Idle
ask_held w c (Some h) = ask_closed w c h h.chunk.closed

-- the core asks
unfoldable pub asking : World → (core : ℕ) → EventOutcome
asking w c = ask_held w c (at w.cores c)
