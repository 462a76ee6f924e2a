-- How much there is to do: instructions, commits, and the words that the kernel and DMAs store.
use Rattle.std.specs.Prelude.{ℕ, zero, suc, ◌+◌, List, [], ◌∷◌, length, slice_get, Option, Some, None}
use Rattle.spec_isa.specs.declared.thread.Parts.{Parts}
use Rattle.spec_isa.specs.declared.thread.Kind.{Kind}
use Rattle.spec_isa.specs.Runs.{run}
use Rattle.spec_log.specs.declared.LogParts.{LogParts}
use Rattle.spec_kernel.specs.Devices.{Devices}
use Rattle.spec_kernel.specs.Needs.{next_kind}
use Rattle.spec_play.specs.Turns.{TurnOrEnd, Turn, TurnOfDma, Ended}
use Rattle.spec_play.specs.Verdicts.{LogVerdict, Goes, Fails, serial_verdict}
use Rattle.spec_play.specs.Transfers.{DmaVerdict, DmaGoes, DmaFails, dma_verdict}
use Rattle.spec_play.specs.Plays.{Played, size_or_standard, plays}
use Rattle.spec_play.specs.Intervals.{commits_in}
use Rattle.spec_sphere.specs.sphere.Spheres.{Role, Plain, Record, Replay, Sphere}
use Rattle.spec_sphere.specs.sphere.Commits.{MovedSphere, serial_moved, dma_moved}
use Rattle.spec_protocol.specs.machine.World.{Numbers, MoveKind, OfChunk, OfSerial, OfDma, OfRaise, Move}
use Rattle.spec_sphere.specs.sphere.Setups.{first_played, RoleSetup, IsPlain, IsRecorded, IsReplayed, SphereSetup}
use Rattle.spec_protocol.specs.machine.Serial.{SerialState}
use Rattle.spec_protocol.specs.machine.Moves.{do_move}

-- ---- of a play

-- the words that a serial step stores, or none if it diverges
abbrev pub stored : LogVerdict → ℕ
stored (Goes e u) = length e.words
stored (Fails why) = 0

-- those of a DMA
abbrev pub dma_stored : DmaVerdict → ℕ
dma_stored (DmaGoes words) = length words
dma_stored (DmaFails why) = 0

-- of the next commit of thread k, which is t: a serial step's words, or a chunk's instructions even if it diverges
abbrev pub thread_work : LogParts → Played → (thread : ℕ) → Parts → Option Kind → ℕ
thread_work log y k t (Some kind) = stored (serial_verdict log y.progress y.used k y.threads t y.memory)
thread_work log y k t None = (run y.memory t (size_or_standard log k t.commits)).n

abbrev pub turn_work : LogParts → Played → (thread : ℕ) → Option Parts → ℕ
turn_work log y k None = 0
turn_work log y k (Some t) = suc (thread_work log y k t (next_kind t y.memory))

abbrev pub next_work : LogParts → Played → TurnOrEnd → ℕ
next_work log y (Ended how) = 0
next_work log y TurnOfDma = suc (dma_stored (dma_verdict log y.progress y.used))
next_work log y (Turn k) = turn_work log y k (slice_get y.threads k)

-- of a play's next commit, which itself counts as one, even if it diverges
unfoldable pub commit_work : LogParts → Played → ℕ
commit_work log y = next_work log y y.now

-- of that many commits after the first i
abbrev pub commits_work : LogParts → Played → (i commits : ℕ) → ℕ
commits_work log y i zero = 0
commits_work log y i (suc n) = commit_work log (plays log y i) + commits_work log y (suc i) n

-- of a replayed sphere: that of its log's play, of the commits that are replayed
abbrev pub setup_work : SphereSetup → RoleSetup → ℕ
setup_work image IsPlain = 0
setup_work image (IsRecorded asked) = 0
setup_work image (IsReplayed asked) =
    commits_work asked.log (first_played image asked) 0 (commits_in asked.log.count asked.interval)

-- of the plays of all spheres that are replayed
abbrev pub plays_work : List SphereSetup → ℕ
plays_work [] = 0
plays_work (image ∷ images) = setup_work image image.role + plays_work images

-- ---- of a schedule, in plain and recorded spheres

abbrev pub serial_work : Sphere → Devices → (moment thread : ℕ) → Option Parts → ℕ
serial_work p devices moment k None = 0
serial_work p devices moment k (Some t) = suc (length (serial_moved k moment t devices p).words)

abbrev pub dma_work : Option MovedSphere → ℕ
dma_work None = 0
dma_work (Some v) = suc (length v.words)

-- a commit counts as one, with a chunk's instructions, or the words of a serial step or a DMA
abbrev pub kind_work : Sphere → Devices → (moment : ℕ) → MoveKind → ℕ
kind_work p devices moment (OfChunk k how n limit) = suc n
kind_work p devices moment (OfSerial k) = serial_work p devices moment k (slice_get p.threads k)
kind_work p devices moment OfDma = dma_work (dma_moved devices p)
kind_work p devices moment (OfRaise k value) = 0

-- a replayed sphere's commits are its play's
abbrev pub role_work : Sphere → Devices → Move → Role → ℕ
role_work p devices m Plain = kind_work p devices m.moment m.what
role_work p devices m (Record recording) = kind_work p devices m.moment m.what
role_work p devices m (Replay b) = 0

abbrev pub sphere_work : Devices → Move → Option Sphere → ℕ
sphere_work devices m None = 0
sphere_work devices m (Some p) = role_work p devices m p.role

abbrev pub move_work : SerialState → Move → ℕ
move_work x m = sphere_work x.devices m (slice_get x.spheres m.sphere)

-- of all that took effect
abbrev pub moves_work : Numbers → SerialState → List Move → ℕ
moves_work z x [] = 0
moves_work z x (m ∷ ms) = move_work x m + moves_work z (do_move z x m) ms
