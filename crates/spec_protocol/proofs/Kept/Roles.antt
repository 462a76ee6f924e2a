-- Which spheres are recorded in epochs: those that are set up so, after any events.
use Rattle.std.proofs.Common.{◌≡◌, ℕ, suc, Bool, true, false, List, [], ◌∷◌, map, Option, Some, None, refl, sym, ap, ◌∙◌, get_or, set}
use Rattle.std.specs.Prelude.{slice_get}
use Rattle.std.proofs.Math.ListN.{get_or-map}
use Rattle.std.proofs.Math.Seq.{map-set_same}
use Rattle.std.proofs.lemmas.Option.{get_or_from_slice_get}
use Rattle.dl_entry.specs.declared.Request.{Request}
use Rattle.spec_isa.specs.declared.thread.Parts.{Parts}
use Rattle.spec_isa.specs.Runs.{Run, run}
use Rattle.spec_kernel.specs.Devices.{Devices}
use Rattle.spec_play.specs.Epochs.{Epochs}
use Rattle.spec_play.specs.Verdicts.{LogVerdict, Goes, Fails, chunk_verdict, serial_verdict}
use Rattle.spec_play.specs.Transfers.{DmaVerdict, DmaGoes, DmaFails, dma_verdict}
use Rattle.spec_engine.specs.Flights.{Flight}
use Rattle.spec_protocol.specs.declared.event.Event.{Event}
use Rattle.spec_sphere.specs.sphere.Spheres.{Cursor, Role, Plain, Record, Replay, Sphere, no_sphere}
use Rattle.spec_sphere.specs.sphere.Commits.{MovedSphere, joined, by_verdict, replayed_chunk, chunk_in, chunk_moved, serial_in, serial_moved, live_dma, dma_log, dma_by_verdict, dma_in, dma_moved, role_raised, raised, laid}
use Rattle.spec_engine.specs.Closing.{is_piece, is_short}
use Rattle.spec_protocol.specs.machine.World.{Numbers, World, MoveKind, OfChunk, OfSerial, OfDma, OfRaise, Move, sphere_at}
use Rattle.spec_sphere.specs.sphere.Setups.{RoleSetup, IsPlain, IsRecorded, IsReplayed, SphereSetup, sphere_as, sphere_of, new_epochs}
use Rattle.spec_protocol.specs.machine.Machine.{Setup, world_of, moves}
use Rattle.spec_protocol.specs.machine.Serial.{SerialState, serial_start, do_serial, do_dma, do_raise}
use Rattle.spec_protocol.specs.machine.Moves.{move_chunk, do_by_kind, do_at, do_move, do_moves}
use Rattle.spec_protocol.specs.machine.Shown.{shown, shown_from}
use Rattle.spec_protocol.specs.promises.Promises.{IsSetup, after}
use Rattle.spec_sphere.specs.promises.Alike.{epochs_in}
use Rattle.spec_protocol.proofs.Invariants.Schedules.{moves_are, start-sphere}

-- ---- a move keeps what a sphere's role is

abbrev epochs_at : Sphere → Option Epochs
epochs_at p = epochs_in p.role

verdict_keeps : (b : Cursor) (k : ℕ) (verdict : LogVerdict) (d : Devices) (p : Sphere) → epochs_at (by_verdict b k verdict d p).sphere ≡ None
verdict_keeps b k (Goes e u) d p = refl
verdict_keeps b k (Fails why) d p = refl

replayed_keeps : (piece : Bool) (b : Cursor) (k : ℕ) (r : Run) (d : Devices) (p : Sphere) → epochs_at (replayed_chunk piece b k r d p).sphere ≡ None
replayed_keeps true b k r d p = refl
replayed_keeps false b k r d p = verdict_keeps b k (chunk_verdict b.log p.progress b.used k (joined b r)) d p

chunk_in_keeps : (role : Role) (k : ℕ) (piece short : Bool) (r : Run) (d : Devices) (p : Sphere) → epochs_at (chunk_in role k piece short r d p).sphere ≡ epochs_in role
chunk_in_keeps Plain k piece short r d p = refl
chunk_in_keeps (Record recording) k piece short r d p = refl
chunk_in_keeps (Replay b) k piece short r d p = replayed_keeps piece b k r d p

chunk_keeps : (k : ℕ) (piece short : Bool) (r : Run) (d : Devices) (p : Sphere) → epochs_at (chunk_moved k piece short r d p).sphere ≡ epochs_at p
unfolding chunk_moved
chunk_keeps k piece short r d p = chunk_in_keeps p.role k piece short r d p

serial_in_keeps : (role : Role) (k moment : ℕ) (t : Parts) (d : Devices) (p : Sphere) → epochs_at (serial_in role k moment t d p).sphere ≡ epochs_in role
serial_in_keeps Plain k moment t d p = refl
serial_in_keeps (Record recording) k moment t d p = refl
serial_in_keeps (Replay b) k moment t d p = verdict_keeps b k (serial_verdict b.log p.progress b.used k p.threads t p.memory) d p

serial_keeps : (k moment : ℕ) (t : Parts) (d : Devices) (p : Sphere) → epochs_at (serial_moved k moment t d p).sphere ≡ epochs_at p
unfolding serial_moved
serial_keeps k moment t d p = serial_in_keeps p.role k moment t d p

-- whatever has moved of the sphere, if anything
abbrev KeepsIf : Option Epochs → Option MovedSphere → Type 0
KeepsIf x None = Unit {0}
KeepsIf x (Some v) = epochs_at v.sphere ≡ x

live_keeps : (role : Role) (d : Devices) (p : Sphere) (o : Option Request) → KeepsIf (epochs_in role) (live_dma role d p o)
live_keeps role d p None = tt
live_keeps role d p (Some request) = refl

dma_verdict_keeps : (b : Cursor) (verdict : DmaVerdict) (d : Devices) (p : Sphere) → epochs_at (dma_by_verdict b verdict d p).sphere ≡ None
dma_verdict_keeps b (DmaFails why) d p = refl
dma_verdict_keeps b (DmaGoes words) d p = refl

dma_in_keeps : (role : Role) (d : Devices) (p : Sphere) → KeepsIf (epochs_in role) (dma_in role d p)
dma_in_keeps Plain d p = live_keeps Plain d p p.progress.request
dma_in_keeps (Record recording) d p = live_keeps (Record (record recording { log = dma_log recording.log d p p.progress.request })) d p p.progress.request
dma_in_keeps (Replay b) d p = dma_verdict_keeps b (dma_verdict b.log p.progress b.used) d p

dma_keeps : (d : Devices) (p : Sphere) → KeepsIf (epochs_at p) (dma_moved d p)
unfolding dma_moved
dma_keeps d p = dma_in_keeps p.role d p

raised_keeps : (k commits value : ℕ) (role : Role) → epochs_in (role_raised k commits value role) ≡ epochs_in role
raised_keeps k commits value Plain = refl
raised_keeps k commits value (Record recording) = refl
raised_keeps k commits value (Replay b) = refl

-- ---- in all spheres

put_keeps : (ps : List Sphere) (i : ℕ) (p q : Sphere) → slice_get ps i ≡ Some p → epochs_at q ≡ epochs_at p → map epochs_at (set ps i q) ≡ map epochs_at ps
put_keeps ps i p q is same = map-set_same epochs_at ps i q no_sphere (same ∙ ap epochs_at (sym (get_or_from_slice_get ps i p no_sphere is)))

put_raised : (x : SerialState) (i k value : ℕ) (t : Parts) (p : Sphere) → slice_get x.spheres i ≡ Some p → map epochs_at (set x.spheres i (raised k value t p)) ≡ map epochs_at x.spheres
unfolding raised
put_raised x i k value t p is = put_keeps x.spheres i p (raised k value t p) is (raised_keeps k t.commits value p.role)

what_keeps : (z : Numbers) (x : SerialState) (moment i : ℕ) (p : Sphere) (what : MoveKind) → slice_get x.spheres i ≡ Some p → map epochs_at (do_by_kind z x moment i p what).spheres ≡ map epochs_at x.spheres
what_keeps z x moment i p (OfChunk k how n limit) is = chunk_of (slice_get p.threads k) where
  chunk_of : (o : Option Parts) → map epochs_at (move_chunk z x i k how n limit p o).spheres ≡ map epochs_at x.spheres
  chunk_of None = refl
  chunk_of (Some t) =
      let v = chunk_moved k (is_piece how) (is_short z.s how limit) (run p.memory t n) x.devices p in
      put_keeps x.spheres i p (laid v) is (chunk_keeps k (is_piece how) (is_short z.s how limit) (run p.memory t n) x.devices p)
what_keeps z x moment i p (OfSerial k) is = serial_of (slice_get p.threads k) where
  serial_of : (o : Option Parts) → map epochs_at (do_serial x i k moment p o).spheres ≡ map epochs_at x.spheres
  serial_of None = refl
  serial_of (Some t) = put_keeps x.spheres i p (laid (serial_moved k moment t x.devices p)) is (serial_keeps k moment t x.devices p)
what_keeps z x moment i p OfDma is = dma_of (dma_moved x.devices p) (dma_keeps x.devices p) where
  dma_of : (o : Option MovedSphere) → KeepsIf (epochs_at p) o → map epochs_at (do_dma x i o).spheres ≡ map epochs_at x.spheres
  dma_of None k = refl
  dma_of (Some v) k = put_keeps x.spheres i p (laid v) is k
what_keeps z x moment i p (OfRaise k value) is = raise_of (slice_get p.threads k) where
  raise_of : (o : Option Parts) → map epochs_at (do_raise x i k value p o).spheres ≡ map epochs_at x.spheres
  raise_of None = refl
  raise_of (Some t) = put_raised x i k value t p is

at_keeps : (z : Numbers) (x : SerialState) (m : Move) (o : Option Sphere) → slice_get x.spheres m.sphere ≡ o → map epochs_at (do_at z x m o).spheres ≡ map epochs_at x.spheres
at_keeps z x m None is = refl
at_keeps z x m (Some p) is = what_keeps z x m.moment m.sphere p m.what is

move_keeps : (z : Numbers) (x : SerialState) (m : Move) → map epochs_at (do_move z x m).spheres ≡ map epochs_at x.spheres
unfolding do_move
move_keeps z x m = at_keeps z x m (slice_get x.spheres m.sphere) refl

moves_keep : (z : Numbers) (x : SerialState) (ms : List Move) → map epochs_at (do_moves z x ms).spheres ≡ map epochs_at x.spheres
moves_keep z x [] = refl
moves_keep z x (m ∷ ms) = moves_keep z (do_move z x m) ms ∙ move_keeps z x m

shown_at : (slots : List (Option Flight)) (i : ℕ) (p : Sphere) → epochs_at (shown slots i p) ≡ epochs_at p
unfolding shown
shown_at slots i p = refl

shown_keeps : (slots : List (Option Flight)) (i : ℕ) (ps : List Sphere) → map epochs_at (shown_from slots i ps) ≡ map epochs_at ps
shown_keeps slots i [] = refl
shown_keeps slots i (p ∷ ps) = (λ j. shown_at slots i p j ∷ shown_keeps slots (suc i) ps j)

-- ---- after any events

-- the epochs that a role begins with
abbrev pub epochs_of_role : RoleSetup → Option Epochs
epochs_of_role IsPlain = None
epochs_of_role (IsRecorded asked) = new_epochs asked.epochs
epochs_of_role (IsReplayed asked) = None

start_at : (z : ℕ) (image : SphereSetup) (r : RoleSetup) → epochs_at (sphere_as z image r) ≡ epochs_of_role r
start_at z image IsPlain = refl
start_at z image (IsRecorded asked) = refl
start_at z image (IsReplayed asked) = refl

-- no event changes them
pub epochs-stay : (s : Setup) (es : List Event) (i : ℕ) (image : SphereSetup) → IsSetup s → slice_get s.spheres i ≡ Some image → epochs_in (sphere_at (after s es) i).role ≡ epochs_of_role image.role
epochs-stay s es i image is there =
    let v : World = after s es in
    let m = moves_are s es is in
    let all : map epochs_at v.spheres ≡ map epochs_at (serial_start s).spheres =
    sym (shown_keeps v.slots 0 v.spheres) ∙ ap (λ (x : SerialState). map epochs_at x.spheres) m.same ∙ moves_keep s.numbers (serial_start s) (moves (world_of s) es) in
    let first = start-sphere s.numbers.s s.spheres i image there in
    sym (get_or-map epochs_at v.spheres i no_sphere) ∙ ap (λ (xs : List (Option Epochs)). get_or xs i None) all ∙ get_or-map epochs_at (serial_start s).spheres i no_sphere
    ∙ ap epochs_at (get_or_from_slice_get (serial_start s).spheres i (sphere_of s.numbers.s image) no_sphere first) ∙ start_at s.numbers.s image image.role
