-- The events of flights: Drain, Deliver and Retire.
use Rattle.std.specs.Prelude.{ℕ, Bool, false, length, Option, Some, None, option_map, if◌then◌else◌}
use Rattle.spec_engine.specs.declared.answers.Drain.{Drain}
use Rattle.spec_engine.specs.declared.answers.Deliver.{Deliver}
use Rattle.spec_engine.specs.declared.answers.Retire.{Retire}
use Rattle.spec_engine.specs.Signatures.{Signature, nothing}
use Rattle.spec_engine.specs.Flights.{Flight, at, drain, meets_chunk, deliver, retire}
use Rattle.spec_engine.specs.Chunks.{Chunk, squash}
use Rattle.spec_protocol.specs.declared.reply.Reply.{Reply}
use Rattle.spec_protocol.specs.machine.World.{World, Occupant, sphere_at, with_memory, with_core, with_slot, EventOutcome, answered}

-- ---- Drain

abbrev pub reply_of_drain : Drain → Reply
reply_of_drain Drain.NoCommit = Reply.NoCommit
reply_of_drain Drain.Clean = Reply.Clean
reply_of_drain Drain.Drained = Reply.Drained

abbrev pub drain_slot : World → (slot : ℕ) → Option Flight → EventOutcome
drain_slot w k None = answered w Reply.NoCommit
drain_slot w k (Some f) =
    let d = drain (sphere_at w f.sphere).memory (Some f) in
    answered (with_slot (with_memory w f.sphere d.memory) k d.slot) (reply_of_drain d.reply)

-- the first word left of the slot's flight goes to the memory of its sphere
unfoldable pub draining : World → (slot : ℕ) → EventOutcome
draining w k = drain_slot w k (at w.slots k)

-- ---- Deliver

-- an idle core has read and stored nothing
abbrev pub reads_of : World → Option Occupant → Signature
reads_of w None = nothing w.numbers.bits
reads_of w (Some h) = h.chunk.reads

abbrev pub writes_of : World → Option Occupant → Signature
writes_of w None = nothing w.numbers.bits
writes_of w (Some h) = h.chunk.writes

-- the older chunk begins again, and the younger is abandoned
abbrev pub squashed : Option Occupant → Option Occupant
squashed None = None
squashed (Some h) = Some (record h { chunk = squash h.chunk; younger = None })

abbrev pub younger_of : Option Occupant → Option Chunk
younger_of None = None
younger_of (Some h) = h.younger

-- whether the flight hits what the younger chunk has read or written
abbrev pub hits_younger : Option Flight → Option Chunk → Bool
hits_younger None y = false
hits_younger (Some f) None = false
hits_younger (Some f) (Some y) = meets_chunk y.reads y.writes f

-- the younger chunk alone begins again
abbrev pub squashed_younger : Option Occupant → Option Occupant
squashed_younger None = None
squashed_younger (Some h) = Some (record h { younger = option_map squash h.younger })

-- of the core's two chunks the older was asked first: a hit is on the younger alone
abbrev pub told : World → (core : ℕ) → Option Occupant → Deliver → (hit : Bool) → EventOutcome
told w c held Deliver.NoCommit hit = answered w Reply.NoCommit
told w c held Deliver.Already hit = answered w Reply.Already
told w c held Deliver.Squashed hit = answered (with_core w c (squashed held)) Reply.Squashed
told w c held Deliver.Delivered hit =
    if hit then answered (with_core w c (squashed_younger held)) Reply.Squashed else answered w Reply.Delivered

abbrev pub deliver_to : World → (core slot : ℕ) → Option Occupant → EventOutcome
deliver_to w c k held =
    let d = deliver c (reads_of w held) (writes_of w held) (at w.slots k) in
    told (with_slot w k d.slot) c held d.reply (hits_younger (at w.slots k) (younger_of held))

-- the core is told of the slot's flight
unfoldable pub delivering : World → (core slot : ℕ) → EventOutcome
delivering w c k = deliver_to w c k (at w.cores c)

-- ---- Retire

abbrev pub reply_of_retire : Retire → Reply
reply_of_retire Retire.NoCommit = Reply.NoCommit
reply_of_retire Retire.NotDone = Reply.NotDone
reply_of_retire Retire.Retired = Reply.Retired

-- the slot of a flight with no word left and all cores told becomes free
unfoldable pub retiring : World → (slot : ℕ) → EventOutcome
retiring w k =
    let d = retire (length w.cores) (at w.slots k) in
    answered (with_slot w k d.slot) (reply_of_retire d.reply)
