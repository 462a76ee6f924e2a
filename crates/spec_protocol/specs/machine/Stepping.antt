-- The events of a running chunk: Step and Cut.
use Rattle.std.specs.Prelude.{ℕ, not, ◌&&◌, nat_lt, Option, Some, None, if◌then◌else◌}
use Rattle.spec_isa.specs.Words.{lays}
use Rattle.spec_play.specs.Effects.{counted}
use Rattle.spec_engine.specs.declared.answers.How.{How}
use Rattle.spec_engine.specs.declared.answers.Stepped.{Stepped}
use Rattle.spec_engine.specs.declared.answers.CutReply.{CutReply}
use Rattle.spec_engine.specs.Flights.{at}
use Rattle.spec_engine.specs.Chunks.{Chunk, fresh, Stepping, step, Cutting, cut, is_open, may_follow}
use Rattle.spec_protocol.specs.declared.reply.Reply.{Reply}
use Rattle.spec_sphere.specs.sphere.Spheres.{Role, is_stopped, limit_after, halves, replays}
use Rattle.spec_protocol.specs.machine.World.{Numbers, World, Occupant, sphere_at, with_core, EventOutcome, answered}

-- ---- the older chunk

abbrev pub with_chunk : World → (core : ℕ) → Occupant → Chunk → World
with_chunk w c h ch = with_core w c (Some (record h { chunk = ch }))

abbrev pub reply_of_step : Stepped → Reply
reply_of_step Stepped.Ran = Reply.Ran
reply_of_step (Stepped.Closed how) = Reply.Closed how
reply_of_step (Stepped.Bounced k) = Reply.Bounced k

abbrev pub stepped : World → (core : ℕ) → Occupant → Stepping → EventOutcome
stepped w c h s = answered (with_chunk w c h s.chunk) (reply_of_step s.reply)

-- ---- the younger chunk

abbrev pub with_younger : World → (core : ℕ) → Occupant → Chunk → World
with_younger w c h y = with_core w c (Some (record h { younger = Some y }))

abbrev pub stepped_younger : World → (core : ℕ) → Occupant → Stepping → EventOutcome
stepped_younger w c h s = answered (with_younger w c h s.chunk) (reply_of_step s.reply)

-- the chunk that follows the older one: it begins from the state that the older's commit will leave, with the limit of the
-- commit after that
abbrev pub younger_afresh : Numbers → Role → Occupant → Chunk
younger_afresh z role h =
    let t = counted h.chunk.done.thread in
    fresh z.bits h.chunk.sphere t (limit_after z.s role h.thread t) (halves role)

-- the younger chunk that Step speaks of: the one that there is, or else one that begins
abbrev pub younger_for : Numbers → Role → Occupant → Option Chunk → Option Chunk
younger_for z role h (Some y) = Some y
younger_for z role h None =
    if nat_lt 1 z.depth && may_follow (replays role) h.chunk.closed then Some (younger_afresh z role h) else None

-- ---- Step

-- the older chunk is closed, so the younger one runs an instruction: its own stores lie over the older's, and these over
-- memory
abbrev pub step_younger : World → (core : ℕ) → Occupant → (younger : Option Chunk) → EventOutcome
step_younger w c h None = answered w Reply.Waiting
step_younger w c h (Some y) =
    let p = sphere_at w h.chunk.sphere in
    if is_open y
    then stepped_younger w c h (step w.numbers.capacity (lays p.memory h.chunk.done.words) w.slots c y)
    else answered w Reply.Waiting

-- the core's own stores lie over the memory of its sphere as it stands now, drained or not
abbrev pub step_held : World → (core : ℕ) → Option Occupant → EventOutcome
step_held w c None = answered w Reply.Idle
step_held w c (Some h) =
    let p = sphere_at w h.chunk.sphere in
    if is_stopped p.role then answered w Reply.Stopped
    else if is_open h.chunk then stepped w c h (step w.numbers.capacity p.memory w.slots c h.chunk)
    else step_younger w c h (younger_for w.numbers p.role h h.younger)

-- the core runs one instruction
unfoldable pub stepping : World → (core : ℕ) → EventOutcome
stepping w c = step_held w c (at w.cores c)

-- ---- Cut

abbrev pub reply_of_cut : CutReply → Reply
reply_of_cut CutReply.Waiting = Reply.Waiting
reply_of_cut CutReply.NothingRun = Reply.NothingRun
reply_of_cut CutReply.Closed = Reply.Closed How.Cut

abbrev pub cut_to : World → (core : ℕ) → Occupant → Cutting → EventOutcome
cut_to w c h s = answered (with_chunk w c h s.chunk) (reply_of_cut s.reply)

abbrev pub cut_younger : World → (core : ℕ) → Occupant → Cutting → EventOutcome
cut_younger w c h s = answered (with_younger w c h s.chunk) (reply_of_cut s.reply)

-- the younger chunk is cut off if there is one, else the older. None begins
abbrev pub cut_in : World → (core : ℕ) → Occupant → (younger : Option Chunk) → EventOutcome
cut_in w c h None = cut_to w c h (cut h.chunk)
cut_in w c h (Some y) = cut_younger w c h (cut y)

abbrev pub cut_held : World → (core : ℕ) → Option Occupant → EventOutcome
cut_held w c None = answered w Reply.Idle
cut_held w c (Some h) =
    if is_stopped (sphere_at w h.chunk.sphere).role then answered w Reply.Stopped
    else cut_in w c h h.younger

-- one of the core's chunks is cut off
unfoldable pub cutting : World → (core : ℕ) → EventOutcome
cutting w c = cut_held w c (at w.cores c)
