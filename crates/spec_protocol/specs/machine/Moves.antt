-- All that takes effect done whole, one at a time, in replayed spheres too: pieces and divergences beside the points.
use Rattle.std.specs.Prelude.{◌≡◌, ◌≢◌, ℕ, ◌<◌, ◌≤◌, true, false, List, [], ◌∷◌, slice_get, Option, Some, None, IsSome}
use Rattle.dl_entry.specs.declared.Actor.{Actor}
use Rattle.spec_isa.specs.declared.thread.Parts.{Parts}
use Rattle.spec_isa.specs.Words.{lays}
use Rattle.spec_isa.specs.Runs.{run}
use Rattle.spec_kernel.specs.Devices.{Devices}
use Rattle.spec_kernel.specs.Needs.{next_kind}
use Rattle.spec_kernel.specs.Interrupts.{is_live}
use Rattle.spec_engine.specs.declared.answers.How.{How}
use Rattle.spec_sphere.specs.sphere.Spheres.{turn_against, Sphere, is_stopped, limit_of, is_in_pieces, replays}
use Rattle.spec_engine.specs.Closing.{is_piece, is_short}
use Rattle.spec_sphere.specs.sphere.Commits.{chunk_moved, dma_moved}
use Rattle.spec_protocol.specs.machine.World.{Numbers, MoveKind, OfChunk, OfSerial, OfDma, OfRaise, Move}
use Rattle.spec_protocol.specs.machine.Serial.{SerialState, do_moved, do_serial, do_dma, do_raise}
use Rattle.spec_sphere.specs.sphere.Moves.{SerialFits, FitsRaise}

-- ---- one move

-- n instructions of thread k, which a chunk had run where it was closed so
abbrev pub move_chunk : Numbers → SerialState → (i thread : ℕ) → How → (n limit : ℕ) → Sphere → Option Parts → SerialState
move_chunk z x i k how n limit p None = x
move_chunk z x i k how n limit p (Some t) =
    do_moved x i (chunk_moved k (is_piece how) (is_short z.s how limit) (run p.memory t n) x.devices p)

abbrev pub do_by_kind : Numbers → SerialState → (moment i : ℕ) → Sphere → MoveKind → SerialState
do_by_kind z x moment i p (OfChunk k how n limit) = move_chunk z x i k how n limit p (slice_get p.threads k)
do_by_kind z x moment i p (OfSerial k) = do_serial x i k moment p (slice_get p.threads k)
do_by_kind z x moment i p OfDma = do_dma x i (dma_moved x.devices p)
do_by_kind z x moment i p (OfRaise k value) = do_raise x i k value p (slice_get p.threads k)

abbrev pub do_at : Numbers → SerialState → Move → Option Sphere → SerialState
do_at z x m None = x
do_at z x m (Some p) = do_by_kind z x m.moment m.sphere p m.what

unfoldable pub do_move : Numbers → SerialState → Move → SerialState
do_move z x m = do_at z x m (slice_get x.spheres m.sphere)

abbrev pub do_if : Numbers → SerialState → Option Move → SerialState
do_if z x None = x
do_if z x (Some m) = do_move z x m

-- these moves, in their order
abbrev pub do_moves : Numbers → SerialState → List Move → SerialState
do_moves z x [] = x
do_moves z x (m ∷ ms) = do_moves z (do_move z x m) ms

-- ---- whether a move can be done as it says

-- a chunk of n instructions that was closed so, of thread k, which is t
pub record ChunkFits (z : Numbers) (p : Sphere) (k : ℕ) (t : Parts) (how : How) (n limit : ℕ) : Type 0 where
  -- the sphere hasn't stopped, no other actor has the turn, and the thread lives
  pub going : is_stopped p.role ≡ false
  pub turn : turn_against p (Actor.Thread k) ≡ None
  pub live : is_live t ≡ true
  -- the limit is one that the thread may have: in a replay that of the log, else the standard size or less
  pub positive : 0 < limit
  pub limited : limit ≤ limit_of z.s p.role k t
  pub replayed : replays p.role ≡ true → limit ≡ limit_of z.s p.role k t
  -- none of the n instructions is serial
  pub ran : (run p.memory t n).n ≡ n
  -- at its limit there are so many instructions, else fewer
  pub full : how ≡ How.Limit → n ≡ limit
  pub early : how ≢ How.Limit → n < limit
  -- where it met a serial instruction, that is the next one
  pub serial : how ≡ How.Serial → let r = run p.memory t n in IsSome (next_kind r.thread (lays p.memory r.words))
  -- only the last part of a commit in pieces can be empty
  pub some : how ≡ How.Serial → n ≡ 0 → is_in_pieces p.role ≡ true
  pub cut : how ≡ How.Cut → 0 < n
  pub room : how ≡ How.Overflow → z.capacity ≤ n

abbrev pub FitsChunk : Numbers → Sphere → (thread : ℕ) → How → (n limit : ℕ) → Option Parts → Type 0
FitsChunk z p k how n limit None = ⊥
FitsChunk z p k how n limit (Some t) = ChunkFits z p k t how n limit

abbrev pub FitsSerial : Sphere → (thread : ℕ) → Option Parts → Type 0
FitsSerial p k None = ⊥
FitsSerial p k (Some t) = SerialFits p k t

-- a DMA: where the sphere isn't replayed, a request is outstanding
pub record DmaFits (devices : Devices) (p : Sphere) : Type 0 where
  pub going : is_stopped p.role ≡ false
  pub turn : turn_against p Actor.Dma ≡ None
  pub moves : IsSome (dma_moved devices p)

abbrev pub FitsWhat : Numbers → Devices → Sphere → MoveKind → Type 0
FitsWhat z devices p (OfChunk k how n limit) = FitsChunk z p k how n limit (slice_get p.threads k)
FitsWhat z devices p (OfSerial k) = FitsSerial p k (slice_get p.threads k)
FitsWhat z devices p OfDma = DmaFits devices p
FitsWhat z devices p (OfRaise k value) = FitsRaise p (slice_get p.threads k)

abbrev pub FitsAt : Numbers → Devices → Move → Option Sphere → Type 0
FitsAt z devices m None = ⊥
FitsAt z devices m (Some p) = FitsWhat z devices p m.what

abbrev pub Fits : Numbers → SerialState → Move → Type 0
Fits z x m = FitsAt z x.devices m (slice_get x.spheres m.sphere)

abbrev pub FitsIf : Numbers → SerialState → Option Move → Type 0
FitsIf z x None = Unit {0}
FitsIf z x (Some m) = Fits z x m

abbrev pub FitAll : Numbers → SerialState → List Move → Type 0
FitAll z x [] = Unit {0}
FitAll z x (m ∷ ms) = Fits z x m × FitAll z (do_move z x m) ms
