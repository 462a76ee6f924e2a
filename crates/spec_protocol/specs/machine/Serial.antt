-- The serialisation points executed whole, one at a time, on plain memories: no cores, no speculation, no buffers, no
-- signatures, no flights.
use Rattle.std.specs.Prelude.{◌≡◌, ℕ, ◌<◌, Bool, true, false, List, [], ◌∷◌, map, slice_get, slice_set, Option, Some, None, IsSome}
use Rattle.dl_entry.specs.declared.Actor.{Actor}
use Rattle.dl_entry.specs.declared.CommitKind.{CommitKind}
use Rattle.dl_entry.specs.declared.Point.{Point}
use Rattle.spec_isa.specs.declared.thread.Parts.{Parts}
use Rattle.spec_isa.specs.Runs.{run}
use Rattle.spec_kernel.specs.Devices.{Devices, devices_of}
use Rattle.spec_kernel.specs.Needs.{next_kind}
use Rattle.spec_kernel.specs.Interrupts.{is_live, takes_interrupt}
use Rattle.spec_sphere.specs.sphere.Spheres.{Role, Plain, Record, Replay, Sphere}
use Rattle.spec_sphere.specs.sphere.Commits.{MovedSphere, chunk_moved, serial_moved, dma_moved, raised, laid}
use Rattle.spec_protocol.specs.machine.Machine.{Setup}
use Rattle.spec_sphere.specs.sphere.Setups.{sphere_of}

-- the spheres between two points, and the devices. A replayed sphere stays as it began, since its log says what it does
pub record SerialState : Type 0 where
  pub spheres : List Sphere
  pub devices : Devices

-- the one before the first point
abbrev pub serial_start : Setup → SerialState
serial_start s =
    record { spheres = map (sphere_of s.numbers.s) s.spheres; devices = devices_of s.input s.seed }

-- ---- one point

abbrev pub do_moved : SerialState → (i : ℕ) → MovedSphere → SerialState
do_moved x i v = record { spheres = slice_set x.spheres i (laid v); devices = v.devices }

-- a chunk is a run of its size
abbrev pub do_chunk : SerialState → (i thread size : ℕ) → (short : Bool) → Sphere → Option Parts → SerialState
do_chunk x i k size short p None = x
do_chunk x i k size short p (Some t) = do_moved x i (chunk_moved k false short (run p.memory t size) x.devices p)

abbrev pub do_serial : SerialState → (i thread moment : ℕ) → Sphere → Option Parts → SerialState
do_serial x i k moment p None = x
do_serial x i k moment p (Some t) = do_moved x i (serial_moved k moment t x.devices p)

abbrev pub do_dma : SerialState → (i : ℕ) → Option MovedSphere → SerialState
do_dma x i None = x
do_dma x i (Some v) = do_moved x i v

abbrev pub do_raise : SerialState → (i thread value : ℕ) → Sphere → Option Parts → SerialState
do_raise x i k value p None = x
do_raise x i k value p (Some t) = record x { spheres = slice_set x.spheres i (raised k value t p) }

-- a commit of that kind, in sphere i, which is p
abbrev pub do_kind : SerialState → (moment i : ℕ) → Actor → CommitKind → (size : ℕ) → (short : Bool) → Sphere → SerialState
do_kind x moment i (Actor.Thread k) CommitKind.Chunk size short p =
    do_chunk x i k size short p (slice_get p.threads k)
do_kind x moment i (Actor.Thread k) CommitKind.Serial size short p =
    do_serial x i k moment p (slice_get p.threads k)
do_kind x moment i Actor.Dma CommitKind.Dma size short p = do_dma x i (dma_moved x.devices p)
do_kind x moment i (Actor.Thread k) CommitKind.Dma size short p = x
do_kind x moment i (Actor.Thread k) CommitKind.Piece size short p = x
do_kind x moment i Actor.Dma CommitKind.Chunk size short p = x
do_kind x moment i Actor.Dma CommitKind.Serial size short p = x
do_kind x moment i Actor.Dma CommitKind.Piece size short p = x

-- only in plain and recorded spheres
abbrev pub in_live : Role → SerialState → SerialState → SerialState
in_live Plain x done = done
in_live (Record recording) x done = done
in_live (Replay b) x done = x

abbrev pub do_commit : SerialState → (moment i : ℕ) → Actor → CommitKind → (size : ℕ) → (short : Bool) → Option Sphere → SerialState
do_commit x moment i actor kind size short None = x
do_commit x moment i actor kind size short (Some p) =
    in_live p.role x (do_kind x moment i actor kind size short p)

abbrev pub do_interrupt : SerialState → (i thread value : ℕ) → Option Sphere → SerialState
do_interrupt x i k value None = x
do_interrupt x i k value (Some p) = in_live p.role x (do_raise x i k value p (slice_get p.threads k))

unfoldable pub do_point : SerialState → Point → SerialState
do_point x (Point.Commit moment i actor kind size short) =
    do_commit x moment i actor kind size short (slice_get x.spheres i)
do_point x (Point.Raise moment i k value) = do_interrupt x i k value (slice_get x.spheres i)

-- these points, in their order
abbrev pub do_points : SerialState → List Point → SerialState
do_points x [] = x
do_points x (p ∷ ps) = do_points (do_point x p) ps

-- what the points of a run leave
abbrev pub serial : Setup → List Point → SerialState
serial s ps = do_points (serial_start s) ps

-- ---- whether a point can be done as it says

-- the thread lives, and none of so many instructions is serial
pub record CanRun (m : List ℕ) (t : Parts) (size : ℕ) : Type 0 where
  pub live : is_live t ≡ true
  pub some : 0 < size
  pub ran : (run m t size).n ≡ size

abbrev pub CanChunk : (size : ℕ) → Sphere → Option Parts → Type 0
CanChunk size p None = ⊥
CanChunk size p (Some t) = CanRun p.memory t size

-- the thread lives, and its next instruction is serial
pub record CanServe (m : List ℕ) (t : Parts) (size : ℕ) : Type 0 where
  pub live : is_live t ≡ true
  pub empty : size ≡ 0
  pub serial : IsSome (next_kind t m)

abbrev pub CanSerial : (size : ℕ) → Sphere → Option Parts → Type 0
CanSerial size p None = ⊥
CanSerial size p (Some t) = CanServe p.memory t size

abbrev pub CanTake : Option Parts → Type 0
CanTake None = ⊥
CanTake (Some t) = takes_interrupt t ≡ true

abbrev pub CanKind : Devices → Actor → CommitKind → (size : ℕ) → Sphere → Type 0
CanKind devices (Actor.Thread k) CommitKind.Chunk size p = CanChunk size p (slice_get p.threads k)
CanKind devices (Actor.Thread k) CommitKind.Serial size p = CanSerial size p (slice_get p.threads k)
CanKind devices Actor.Dma CommitKind.Dma size p = (size ≡ 0) × IsSome p.progress.request
CanKind devices (Actor.Thread k) CommitKind.Dma size p = ⊥
CanKind devices (Actor.Thread k) CommitKind.Piece size p = ⊥
CanKind devices Actor.Dma CommitKind.Chunk size p = ⊥
CanKind devices Actor.Dma CommitKind.Serial size p = ⊥
CanKind devices Actor.Dma CommitKind.Piece size p = ⊥

abbrev pub InLive : Role → Type 0 → Type 0
InLive Plain can = can
InLive (Record recording) can = can
InLive (Replay b) can = Unit {0}

abbrev pub CanCommit : Devices → Actor → CommitKind → (size : ℕ) → Option Sphere → Type 0
CanCommit devices actor kind size None = ⊥
CanCommit devices actor kind size (Some p) = InLive p.role (CanKind devices actor kind size p)

abbrev pub CanInterrupt : (thread : ℕ) → Option Sphere → Type 0
CanInterrupt k None = ⊥
CanInterrupt k (Some p) = InLive p.role (CanTake (slice_get p.threads k))

abbrev pub CanDo : SerialState → Point → Type 0
CanDo x (Point.Commit moment i actor kind size short) = CanCommit x.devices actor kind size (slice_get x.spheres i)
CanDo x (Point.Raise moment i k value) = CanInterrupt k (slice_get x.spheres i)

abbrev pub CanDoAll : SerialState → List Point → Type 0
CanDoAll x [] = Unit {0}
CanDoAll x (p ∷ ps) = CanDo x p × CanDoAll (do_point x p) ps
