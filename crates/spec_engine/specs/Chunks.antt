-- The chunk of one core: how it begins, its step, how it is cut off and squashed.
use Rattle.std.specs.Prelude.{ℕ, suc, ◌/◌, Bool, true, false, not, ◌&&◌, ◌||◌, nat_eq, nat_lt, max, List, length, Option, Some, None, if◌then◌else◌}
use Rattle.spec_isa.specs.declared.thread.Parts.{Parts}
use Rattle.spec_isa.specs.declared.thread.Load.{Load}
use Rattle.spec_isa.specs.Words.{Stored, lays, read, holds, is_inside}
use Rattle.spec_isa.specs.Instruction.{Next, serial_of, loads_of, next_of, load_of, store_of}
use Rattle.spec_isa.specs.Runs.{Run, run_start, followed}
use Rattle.spec_isa.specs.Threads.{started}
use Rattle.spec_engine.specs.declared.answers.How.{How}
use Rattle.spec_engine.specs.declared.answers.Stepped.{Stepped}
use Rattle.spec_engine.specs.declared.answers.CutReply.{CutReply}
use Rattle.spec_engine.specs.Choices.{on_option, choose}
use Rattle.spec_engine.specs.Signatures.{Signature, nothing, insert, line}
use Rattle.spec_engine.specs.Flights.{Flight, first_slot, bounces}

pub record Chunk : Type 0 where
  -- the sphere of its thread, and the thread as it was when the chunk began
  pub sphere : ℕ
  pub start : Parts
  -- the run so far: the present thread, the words stored, the loads, and the number of instructions
  pub done : Run
  -- the lines read and those stored to
  pub reads : Signature
  pub writes : Signature
  pub closed : Option How
  -- how many instructions it may run
  pub limit : ℕ
  -- whether squashes halve the limit, and how many squashes there have been since the limit was set
  pub halves : Bool
  pub squashes : ℕ

-- a chunk at its beginning
abbrev pub fresh : (bits sphere : ℕ) → Parts → (limit : ℕ) → (halves : Bool) → Chunk
fresh bits i t limit halves =
    record {
      sphere = i;
      start = t;
      done = run_start t;
      reads = nothing bits;
      writes = nothing bits;
      closed = None;
      limit = limit;
      halves = halves;
      squashes = 0;
    }

-- what a core runs its chunks on: how many instructions and words there is room for, and the chunk
pub record Engine : Type 0 where
  pub most : ℕ
  pub capacity : ℕ
  pub chunk : Chunk

-- a new engine, whose chunk has run nothing
abbrev pub new_engine : (most capacity bits : ℕ) → Engine
new_engine most capacity bits = record { most = most; capacity = capacity; chunk = fresh bits 0 (started 0) most false }

-- with this chunk
abbrev pub with_chunk : Chunk → Engine → Engine
with_chunk ch e = record e { chunk = ch }

-- ---- one step

-- what a step answers, and the chunk after it
pub record Stepping : Type 0 where
  pub reply : Stepped
  pub chunk : Chunk

abbrev pub closes : How → Chunk → Stepping
closes how ch = record { reply = Stepped.Closed how; chunk = record ch { closed = Some how } }

-- with the word's line among those read
abbrev pub marked : Chunk → (number : ℕ) → Chunk
marked ch a = record ch { reads = insert (line ch.sphere a) ch.reads }

abbrev pub with_line : (sphere : ℕ) → Option Stored → Signature → Signature
with_line i None g = g
with_line i (Some s) g = insert (line i s.number) g

-- after an instruction that left this thread, load and store
abbrev pub ran : Chunk → Parts → Option Load → Option Stored → Chunk
ran ch t load store = record ch { done = followed ch.done (Next t load store); writes = with_line ch.sphere store ch.writes }

-- a chunk closes once it has run as many instructions as it may
unfoldable pub at_limit : Chunk → Stepping
at_limit ch = choose (nat_eq ch.done.n ch.limit) (closes How.Limit ch) (record { reply = Stepped.Ran; chunk = ch })

-- there is room for a store to a word that is already held, and for one to a new word if fewer than the capacity are held
abbrev pub has_room : (capacity : ℕ) → List Stored → Option Stored → Bool
has_room capacity ws None = true
has_room capacity ws (Some s) = holds ws s.number || nat_lt (length ws) capacity

-- either a flight holds up the reading of the word, or the word is read: then its line is noted, whatever comes next
unfoldable pub reading : List (Option Flight) → (core : ℕ) → Chunk → (number : ℕ) → (Chunk → Stepping) → Stepping
reading slots c ch a then_ =
    on_option (first_slot (bounces c (line ch.sphere a)) slots) (then_ (marked ch a)) (λ k. record { reply = Stepped.Bounced k; chunk = ch })

-- the instruction f, where w is the word that it loads: if there is no room for its store, the chunk closes and it is not run
unfoldable pub storing : (capacity : ℕ) → (f w : ℕ) → Chunk → Stepping
storing capacity f w ch =
    let t = ch.done.thread in
    choose (has_room capacity ch.done.words (store_of t f w))
    (at_limit (ran ch (next_of t f w) (load_of t f w) (store_of t f w)))
    (closes How.Overflow ch)

-- its load, if it has one, on the memory as the chunk sees it
unfoldable pub loading : (capacity : ℕ) → List ℕ → List (Option Flight) → (core f : ℕ) → Chunk → Stepping
loading capacity shown slots c f ch =
    on_option (loads_of ch.done.thread f) (storing capacity f 0 ch)
    (λ a. reading slots c ch a (storing capacity f (read shown a)))

-- a serial instruction closes the chunk and is not run
unfoldable pub running : (capacity : ℕ) → List ℕ → List (Option Flight) → (core f : ℕ) → Chunk → Stepping
running capacity shown slots c f ch =
    on_option (serial_of ch.done.thread f (length shown)) (loading capacity shown slots c f ch) (λ kind. closes How.Serial ch)

-- one instruction of core c's chunk, on the memory with the chunk's own stores laid over it, beside these flights: first the fetch,
-- unless the pc is outside memory, which is a fault; then whether the instruction is serial; then its load; then its store
unfoldable pub step : (capacity : ℕ) → (memory : List ℕ) → List (Option Flight) → (core : ℕ) → Chunk → Stepping
step capacity m slots c ch =
    let pc = ch.done.thread.pc in
    let shown = lays m ch.done.words in
    choose (is_inside (length shown) pc)
    (reading slots c ch (pc / 4) (running capacity shown slots c (read shown (pc / 4))))
    (closes How.Serial ch)

-- ---- cutting off and squashing

pub record Cutting : Type 0 where
  pub reply : CutReply
  pub chunk : Chunk

-- an open chunk that has run an instruction is closed as it is
abbrev pub cut_open : Chunk → Option How → Cutting
cut_open ch (Some how) = record { reply = CutReply.Waiting; chunk = ch }
cut_open ch None =
    if nat_eq ch.done.n 0
    then record { reply = CutReply.NothingRun; chunk = ch }
    else record { reply = CutReply.Closed; chunk = record ch { closed = Some How.Cut } }

abbrev pub cut : Chunk → Cutting
cut ch = cut_open ch ch.closed

-- every fourth squash halves the limit, but never below 1
abbrev pub is_fourth : Chunk → Bool
is_fourth ch = ch.halves && nat_eq ch.squashes 3

abbrev pub halved : (limit : ℕ) → ℕ
halved limit = max 1 (limit / 2)

abbrev pub next_squashes : Chunk → ℕ
next_squashes ch = if ch.halves && nat_lt ch.squashes 3 then suc ch.squashes else 0

-- the chunk begins again from its start
abbrev pub squash : Chunk → Chunk
squash ch =
    record (fresh ch.reads.bits ch.sphere ch.start (if is_fourth ch then halved ch.limit else ch.limit) ch.halves) { squashes = next_squashes ch }

-- ---- tests of a chunk

abbrev pub is_open : Chunk → Bool
is_open ch = elim ch.closed [ None ↦ true | Some how ↦ false ]

abbrev pub is_serial : Option How → Bool
is_serial None = false
is_serial (Some How.Limit) = false
is_serial (Some How.Serial) = true
is_serial (Some How.Overflow) = false
is_serial (Some How.Cut) = false

-- whether a chunk may follow one that was closed so. In a replay one that was cut off, or found no room, is a piece of a
-- commit, and none follows it
abbrev pub may_follow : (replays : Bool) → Option How → Bool
may_follow b None = false
may_follow b (Some How.Limit) = true
may_follow b (Some How.Serial) = false
may_follow b (Some How.Overflow) = not b
may_follow b (Some How.Cut) = not b

-- it closed before a serial instruction, and has run nothing
abbrev pub is_empty_serial : Chunk → Bool
is_empty_serial ch = nat_eq ch.done.n 0 && is_serial ch.closed
