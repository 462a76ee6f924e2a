-- A sphere that is set up to be replayed stays a replayed one, and no other one becomes one.
use Rattle.std.proofs.Common.{◌≡◌, ℕ, zero, suc, Bool, true, false, List, [], ◌∷◌, map, Option, Some, None, refl, sym, ap, ◌∙◌, set}
use Rattle.std.specs.Prelude.{slice_get}
use Rattle.std.proofs.lemmas.Option.{none-some}
use Rattle.dl_entry.specs.declared.Request.{Request}
use Rattle.spec_isa.specs.declared.thread.Parts.{Parts}
use Rattle.spec_isa.specs.Runs.{Run, run}
use Rattle.spec_kernel.specs.Devices.{Devices}
use Rattle.spec_play.specs.Verdicts.{LogVerdict, Goes, Fails}
use Rattle.spec_play.specs.Transfers.{DmaVerdict, DmaGoes, DmaFails}
use Rattle.spec_engine.specs.declared.answers.How.{How}
use Rattle.spec_sphere.specs.sphere.Spheres.{Cursor, Role, Plain, Record, Replay, Sphere, replays}
use Rattle.spec_sphere.specs.sphere.Commits.{MovedSphere, by_verdict, chunk_in, chunk_moved, serial_in, serial_moved, live_dma, dma_log, dma_by_verdict, dma_in, dma_moved, role_raised, raised}
use Rattle.spec_engine.specs.Closing.{is_piece, is_short}
use Rattle.spec_protocol.specs.machine.World.{Numbers, MoveKind, OfChunk, OfSerial, OfDma, OfRaise, Move}
use Rattle.spec_sphere.specs.sphere.Commits.{laid}
use Rattle.spec_sphere.specs.sphere.Setups.{RoleSetup, IsPlain, IsRecorded, IsReplayed, SphereSetup, sphere_as, sphere_of}
use Rattle.spec_protocol.specs.machine.Serial.{SerialState, do_serial, do_dma, do_raise}
use Rattle.spec_protocol.specs.machine.Moves.{move_chunk, do_by_kind, do_at, do_move, do_moves}

-- ---- one sphere

verdict_kind : (b : Cursor) (k : ℕ) (x : LogVerdict) (devices : Devices) (p : Sphere) → replays (by_verdict b k x devices p).sphere.role ≡ true
verdict_kind b k (Goes e u) devices p = refl
verdict_kind b k (Fails why) devices p = refl

chunk_in_kind : (role : Role) (k : ℕ) (piece short : Bool) (r : Run) (devices : Devices) (p : Sphere) → replays (chunk_in role k piece short r devices p).sphere.role ≡ replays role
chunk_in_kind Plain k piece short r devices p = refl
chunk_in_kind (Record recording) k piece short r devices p = refl
chunk_in_kind (Replay b) k true short r devices p = refl
chunk_in_kind (Replay b) k false short r devices p = verdict_kind b k _ devices p

-- a chunk leaves a sphere replayed, or not, as it was
pub chunk-kind : (k : ℕ) (piece short : Bool) (r : Run) (devices : Devices) (p : Sphere) → replays (chunk_moved k piece short r devices p).sphere.role ≡ replays p.role
unfolding chunk_moved
chunk-kind k piece short r devices p = chunk_in_kind p.role k piece short r devices p

serial_in_kind : (role : Role) (k moment : ℕ) (t : Parts) (devices : Devices) (p : Sphere) → replays (serial_in role k moment t devices p).sphere.role ≡ replays role
serial_in_kind Plain k moment t devices p = refl
serial_in_kind (Record recording) k moment t devices p = refl
serial_in_kind (Replay b) k moment t devices p = verdict_kind b k _ devices p

-- a serial step leaves a sphere replayed, or not, as it was
pub serial-kind : (k moment : ℕ) (t : Parts) (devices : Devices) (p : Sphere) → replays (serial_moved k moment t devices p).sphere.role ≡ replays p.role
unfolding serial_moved
serial-kind k moment t devices p = serial_in_kind p.role k moment t devices p

-- of a DMA, if there is one
abbrev pub DmaKind : Role → Option MovedSphere → Type 0
DmaKind role None = Unit {0}
DmaKind role (Some v) = replays v.sphere.role ≡ replays role

live_kind : (role was : Role) (devices : Devices) (p : Sphere) (q : Option Request) → replays role ≡ replays was → DmaKind was (live_dma role devices p q)
live_kind role was devices p None e = tt
live_kind role was devices p (Some r) e = e

dma_verdict_kind : (b : Cursor) (x : DmaVerdict) (devices : Devices) (p : Sphere) → replays (dma_by_verdict b x devices p).sphere.role ≡ true
dma_verdict_kind b (DmaGoes words) devices p = refl
dma_verdict_kind b (DmaFails why) devices p = refl

dma_in_kind : (role : Role) (devices : Devices) (p : Sphere) → DmaKind role (dma_in role devices p)
dma_in_kind Plain devices p = live_kind Plain Plain devices p p.progress.request refl
dma_in_kind (Record recording) devices p = live_kind (Record (record recording { log = dma_log recording.log devices p p.progress.request })) (Record recording) devices p p.progress.request refl
dma_in_kind (Replay b) devices p = dma_verdict_kind b _ devices p

-- a DMA leaves a sphere replayed, or not, as it was
pub dma-kind : (devices : Devices) (p : Sphere) → DmaKind p.role (dma_moved devices p)
unfolding dma_moved
dma-kind devices p = dma_in_kind p.role devices p

role_raised_kind : (k n value : ℕ) (role : Role) → replays (role_raised k n value role) ≡ replays role
role_raised_kind k n value Plain = refl
role_raised_kind k n value (Record recording) = refl
role_raised_kind k n value (Replay b) = refl

-- an interrupt leaves a sphere replayed, or not, as it was
pub raised-kind : (k value : ℕ) (t : Parts) (p : Sphere) → replays (raised k value t p).role ≡ replays p.role
unfolding raised
raised-kind k value t p = role_raised_kind k t.commits value p.role

-- ---- all spheres

-- whether the role of a setup is a replayed one
abbrev pub is_replayed : RoleSetup → Bool
is_replayed IsPlain = false
is_replayed (IsRecorded asked) = false
is_replayed (IsReplayed asked) = true

-- the spheres that the setups have replayed are replayed, and no others
abbrev pub AreOfKinds : List SphereSetup → List Sphere → Type 0
AreOfKinds [] ps = Unit {0}
AreOfKinds (image ∷ images) [] = Unit {0}
AreOfKinds (image ∷ images) (p ∷ ps) = (replays p.role ≡ is_replayed image.role) × AreOfKinds images ps

kinds_set : (images : List SphereSetup) (ps : List Sphere) (i : ℕ) (p q : Sphere) → slice_get ps i ≡ Some p → replays q.role ≡ replays p.role → AreOfKinds images ps → AreOfKinds images (set ps i q)
kinds_set [] ps i p q is same all = tt
kinds_set (image ∷ images) [] i p q is same all = tt
kinds_set (image ∷ images) (x ∷ ps) zero p q is same all =
    let e : x ≡ p = cc in (same ∙ ap (λ (y : Sphere). replays y.role) (sym e) ∙ all.0, all.1)
kinds_set (image ∷ images) (x ∷ ps) (suc i) p q is same all = (all.0, kinds_set images ps i p q is same all.1)

-- a sphere is replayed if its setup says so
pub kind-at : (images : List SphereSetup) (ps : List Sphere) (i : ℕ) (image : SphereSetup) (p : Sphere) → slice_get images i ≡ Some image → slice_get ps i ≡ Some p → AreOfKinds images ps → replays p.role ≡ is_replayed image.role
kind-at [] ps i image p there is all = absurd (none-some image there)
kind-at (a ∷ images) [] i image p there is all = absurd (none-some p is)
kind-at (a ∷ images) (x ∷ ps) zero image p there is all =
    let e : x ≡ p = cc in let f : a ≡ image = cc in
    ap (λ (y : Sphere). replays y.role) (sym e) ∙ all.0 ∙ ap (λ (y : SphereSetup). is_replayed y.role) f
kind-at (a ∷ images) (x ∷ ps) (suc i) image p there is all = kind-at images ps i image p there is all.1

start_kind : (s : ℕ) (image : SphereSetup) (r : RoleSetup) → replays (sphere_as s image r).role ≡ is_replayed r
start_kind s image IsPlain = refl
start_kind s image (IsRecorded asked) = refl
start_kind s image (IsReplayed asked) = refl

-- the spheres that a setup starts are of their setups' kinds
pub start-kinds : (s : ℕ) (images : List SphereSetup) → AreOfKinds images (map (sphere_of s) images)
start-kinds s [] = tt
start-kinds s (image ∷ images) = (start_kind s image image.role, start-kinds s images)

-- ---- a move

chunk_kinds : (z : Numbers) (images : List SphereSetup) (x : SerialState) (i k : ℕ) (how : How) (n limit : ℕ) (p : Sphere) (o : Option Parts) → slice_get x.spheres i ≡ Some p → AreOfKinds images x.spheres → AreOfKinds images (move_chunk z x i k how n limit p o).spheres
chunk_kinds z images x i k how n limit p None is all = all
chunk_kinds z images x i k how n limit p (Some t) is all =
    kinds_set images x.spheres i p (laid (chunk_moved k (is_piece how) (is_short z.s how limit) (run p.memory t n) x.devices p)) is
    (chunk-kind k (is_piece how) (is_short z.s how limit) (run p.memory t n) x.devices p) all

serial_kinds : (images : List SphereSetup) (x : SerialState) (i k moment : ℕ) (p : Sphere) (o : Option Parts) → slice_get x.spheres i ≡ Some p → AreOfKinds images x.spheres → AreOfKinds images (do_serial x i k moment p o).spheres
serial_kinds images x i k moment p None is all = all
serial_kinds images x i k moment p (Some t) is all =
    kinds_set images x.spheres i p (laid (serial_moved k moment t x.devices p)) is (serial-kind k moment t x.devices p) all

dma_kinds : (images : List SphereSetup) (x : SerialState) (i : ℕ) (p : Sphere) (o : Option MovedSphere) → slice_get x.spheres i ≡ Some p → DmaKind p.role o → AreOfKinds images x.spheres → AreOfKinds images (do_dma x i o).spheres
dma_kinds images x i p None is kind all = all
dma_kinds images x i p (Some v) is kind all = kinds_set images x.spheres i p (laid v) is kind all

raise_kinds : (images : List SphereSetup) (x : SerialState) (i k value : ℕ) (p : Sphere) (o : Option Parts) → slice_get x.spheres i ≡ Some p → AreOfKinds images x.spheres → AreOfKinds images (do_raise x i k value p o).spheres
raise_kinds images x i k value p None is all = all
raise_kinds images x i k value p (Some t) is all = kinds_set images x.spheres i p (raised k value t p) is (raised-kind k value t p) all

what_kinds : (z : Numbers) (images : List SphereSetup) (x : SerialState) (moment i : ℕ) (p : Sphere) (a : MoveKind) → slice_get x.spheres i ≡ Some p → AreOfKinds images x.spheres → AreOfKinds images (do_by_kind z x moment i p a).spheres
what_kinds z images x moment i p (OfChunk k how n limit) is all = chunk_kinds z images x i k how n limit p (slice_get p.threads k) is all
what_kinds z images x moment i p (OfSerial k) is all = serial_kinds images x i k moment p (slice_get p.threads k) is all
what_kinds z images x moment i p OfDma is all = dma_kinds images x i p (dma_moved x.devices p) is (dma-kind x.devices p) all
what_kinds z images x moment i p (OfRaise k value) is all = raise_kinds images x i k value p (slice_get p.threads k) is all

at_kinds : (z : Numbers) (images : List SphereSetup) (x : SerialState) (m : Move) (o : Option Sphere) → slice_get x.spheres m.sphere ≡ o → AreOfKinds images x.spheres → AreOfKinds images (do_at z x m o).spheres
at_kinds z images x m None is all = all
at_kinds z images x m (Some p) is all = what_kinds z images x m.moment m.sphere p m.what is all

move_kinds : (z : Numbers) (images : List SphereSetup) (x : SerialState) (m : Move) → AreOfKinds images x.spheres → AreOfKinds images (do_move z x m).spheres
unfolding do_move
move_kinds z images x m all = at_kinds z images x m (slice_get x.spheres m.sphere) refl all

-- no moves change the kinds of spheres
pub moves-kinds : (z : Numbers) (images : List SphereSetup) (x : SerialState) (ms : List Move) → AreOfKinds images x.spheres → AreOfKinds images (do_moves z x ms).spheres
moves-kinds z images x [] all = all
moves-kinds z images x (m ∷ ms) all = moves-kinds z images (do_move z x m) ms (move_kinds z images x m all)
