-- Whatever takes effect in a sphere, the thread that committed last is the last one among its commits, or before them.
use Rattle.std.proofs.Common.{◌≡◌, ℕ, ◌<◌, inl, inr, Bool, true, false, List, [], ◌∷◌, length, Option, Some, None, refl, sym, ap, ◌∙◌, subst, set}
use Rattle.std.specs.Prelude.{slice_get, option_map}
use Rattle.std.specs.Option.{option_or}
use Rattle.std.proofs.lemmas.Bool.{cases_eq}
use Rattle.std.proofs.lemmas.Option.{none-some, slice_get_within, slice_get-map, get_or_from_slice_get}
use Rattle.dl_entry.specs.Numbers.{plain_threads}
use Rattle.dl_entry.specs.declared.Actor.{Actor}
use Rattle.dl_entry.specs.declared.Request.{Request}
use Rattle.spec_isa.specs.declared.thread.Parts.{Parts}
use Rattle.spec_isa.specs.Runs.{Run, run}
use Rattle.spec_kernel.specs.Devices.{Devices}
use Rattle.spec_kernel.specs.Needs.{need}
use Rattle.spec_kernel.specs.Answers.{taken}
use Rattle.spec_kernel.specs.Serving.{serve}
use Rattle.spec_play.specs.Effects.{Effect, chunk_effect, serial_effect}
use Rattle.spec_play.specs.Verdicts.{LogVerdict, Goes, Fails, chunk_verdict, serial_verdict}
use Rattle.spec_play.specs.Transfers.{DmaVerdict, DmaGoes, DmaFails, dma_verdict}
use Rattle.spec_play.specs.Progress.{Progress, last_thread, with_effect, with_dma}
use Rattle.spec_play.proofs.Lasts.{IsOf, last-effect, last-dma, chunk-of, serial-of}
use Rattle.spec_strata.specs.Standing.{Standing, after_thread, after_dma}
use Rattle.spec_engine.specs.declared.answers.How.{How}
use Rattle.spec_sphere.specs.sphere.Spheres.{Cursor, Role, Plain, Record, Replay, Sphere, no_sphere}
use Rattle.spec_sphere.specs.sphere.Commits.{MovedSphere, with_commit, by_verdict, joined, replayed_chunk, chunk_in, chunk_moved, serial_in, serial_moved, live_dma, dma_log, dma_by_verdict, dma_in, dma_moved, role_raised, raised}
use Rattle.spec_engine.specs.Closing.{is_piece, is_short}
use Rattle.spec_protocol.specs.machine.World.{Numbers, World, Move, MoveKind, OfChunk, OfSerial, OfDma, OfRaise, sphere_at}
use Rattle.spec_sphere.specs.sphere.Commits.{laid}
use Rattle.spec_sphere.specs.sphere.Setups.{RoleSetup, IsPlain, IsRecorded, IsReplayed, SphereSetup, sphere_as, sphere_of}
use Rattle.spec_protocol.specs.machine.Machine.{Setup, world_of, moves}
use Rattle.spec_protocol.specs.machine.Serial.{SerialState, serial_start, do_serial, do_dma, do_raise}
use Rattle.spec_protocol.specs.machine.Shown.{shown, shown_of}
use Rattle.spec_protocol.specs.machine.Moves.{move_chunk, do_by_kind, do_at, do_move, do_moves}
use Rattle.spec_protocol.specs.promises.Promises.{after}
use Rattle.spec_sphere.specs.promises.Lasts.{IsInOrder, IsLastSince, last_before}
use Rattle.spec_protocol.specs.promises.Lasts.{SpheresKeepLasts}
use Rattle.spec_protocol.proofs.Invariants.Preserved.{shown-get}
use Rattle.spec_strata.proofs.Shares.Steps.{get-set_other, get-set_same}
use Rattle.spec_protocol.proofs.Invariants.Schedules.{moves_are}
use Rattle.spec_sphere.proofs.Moves.Joining.{none-mapped}

-- ---- one more commit

last_effect : (a : Option ℕ) (k : ℕ) (e : Effect) (p : Progress) → e.commit.actor ≡ Actor.Thread k → IsLastSince a (with_effect k e p)
last_effect a k e p is = ap (λ (o : Option ℕ). option_or o a) (last-effect k e p is)

last_dma : (a : Option ℕ) (p : Progress) → IsLastSince a p → IsLastSince a (with_dma p)
last_dma a p last =
    last ∙ ap (λ (o : Option ℕ). option_or o a) (last-dma (record p { last = last_thread p.commits }) refl)

-- ---- one move in its sphere

-- if the role is in order, so it is with the progress
abbrev IsLastIf : Option ℕ → Role → Progress → Type 0
IsLastIf a role p = IsInOrder role → IsLastSince a p

verdict_last : (a : Option ℕ) (b : Cursor) (k : ℕ) (v : LogVerdict) (devices : Devices) (p : Sphere) → IsOf k v → IsLastIf a (Replay b) p.progress
    → let q = (by_verdict b k v devices p).sphere in IsLastIf a q.role q.progress
verdict_last a b k (Goes e u) devices p is last order =
    let none = none-mapped (after_thread k) b.strata order in
    subst (λ (o : Option Standing). IsLastSince a (with_commit o k e p.progress)) (sym none) (last_effect a k e p.progress is)
verdict_last a b k (Fails why) devices p is last order = last order

replayed_last : (a : Option ℕ) (piece : Bool) (b : Cursor) (k : ℕ) (r : Run) (devices : Devices) (p : Sphere) → IsLastIf a (Replay b) p.progress
    → let q = (replayed_chunk piece b k r devices p).sphere in IsLastIf a q.role q.progress
replayed_last a true b k r devices p last = last
replayed_last a false b k r devices p last = verdict_last a b k (chunk_verdict b.log p.progress b.used k (joined b r)) devices p (chunk-of b.log p.progress b.used k (joined b r)) last

chunk_last : (a : Option ℕ) (role : Role) (k : ℕ) (piece short : Bool) (r : Run) (devices : Devices) (p : Sphere) → IsLastIf a role p.progress
    → let q = (chunk_in role k piece short r devices p).sphere in IsLastIf a q.role q.progress
chunk_last a Plain k piece short r devices p last order = last_effect a k (chunk_effect k p.progress.request r) p.progress refl
chunk_last a (Record recording) k piece short r devices p last order = last_effect a k (chunk_effect k p.progress.request r) p.progress refl
chunk_last a (Replay b) k piece short r devices p last order = replayed_last a piece b k r devices p last order

-- what the devices' answer leaves of a serial step
abbrev served_effect : (most thread moment : ℕ) → Parts → Devices → Sphere → Effect
served_effect most k moment t devices p =
    serial_effect k (serve most k p.threads p.progress.request t p.memory (taken (need t p.memory) devices moment).input)

serial_last : (a : Option ℕ) (role : Role) (k moment : ℕ) (t : Parts) (devices : Devices) (p : Sphere) → IsLastIf a role p.progress
    → let q = (serial_in role k moment t devices p).sphere in IsLastIf a q.role q.progress
serial_last a Plain k moment t devices p last order = last_effect a k (served_effect plain_threads k moment t devices p) p.progress refl
serial_last a (Record recording) k moment t devices p last order = last_effect a k (served_effect recording.log.threads k moment t devices p) p.progress refl
serial_last a (Replay b) k moment t devices p last order =
    verdict_last a b k (serial_verdict b.log p.progress b.used k p.threads t p.memory) devices p (serial-of b.log p.progress b.used k p.threads t p.memory) last order

-- after a DMA, if there is one
abbrev LastIf : Option ℕ → Option MovedSphere → Type 0
LastIf a None = Unit {0}
LastIf a (Some v) = IsLastIf a v.sphere.role v.sphere.progress

live_last : (a : Option ℕ) (role : Role) (devices : Devices) (p : Sphere) (o : Option Request) → IsLastIf a role p.progress → LastIf a (live_dma role devices p o)
live_last a role devices p None last = tt
live_last a role devices p (Some request) last = λ order. last_dma a p.progress (last order)

dma_verdict_last : (a : Option ℕ) (b : Cursor) (v : DmaVerdict) (devices : Devices) (p : Sphere) → IsLastIf a (Replay b) p.progress
    → let q = (dma_by_verdict b v devices p).sphere in IsLastIf a q.role q.progress
dma_verdict_last a b (DmaGoes words) devices p last order = last_dma a p.progress (last (none-mapped after_dma b.strata order))
dma_verdict_last a b (DmaFails why) devices p last order = last order

dma_last : (a : Option ℕ) (role : Role) (devices : Devices) (p : Sphere) → IsLastIf a role p.progress → LastIf a (dma_in role devices p)
dma_last a Plain devices p last = live_last a Plain devices p p.progress.request last
dma_last a (Record recording) devices p last = live_last a (Record (record recording { log = dma_log recording.log devices p p.progress.request })) devices p p.progress.request last
dma_last a (Replay b) devices p last = dma_verdict_last a b (dma_verdict b.log p.progress b.used) devices p last

-- an interrupt leaves the role in order or not
raised_order : (k commits value : ℕ) (role : Role) → IsInOrder (role_raised k commits value role) → IsInOrder role
raised_order k commits value Plain order = tt
raised_order k commits value (Record recording) order = tt
raised_order k commits value (Replay b) order = order

-- ---- all spheres

abbrev AreLast : (before : ℕ → Option ℕ) → List Sphere → Type 0
AreLast before ps = (i : ℕ) (p : Sphere) → slice_get ps i ≡ Some p → IsLastIf (before i) p.role p.progress

set_last : (before : ℕ → Option ℕ) (ps : List Sphere) (i : ℕ) (p q : Sphere) → slice_get ps i ≡ Some p → AreLast before ps → IsLastIf (before i) q.role q.progress → AreLast before (set ps i q)
set_last before ps i p q is all last j r there = elim (cases_eq j i) [
  | inl e ↦ (
      let same : q ≡ r = (let h : Some q ≡ Some r = sym (get-set_same ps i q p is) ∙ ap (slice_get (set ps i q)) (sym e) ∙ there in cc) in
      subst (λ (n : ℕ). IsLastIf (before n) r.role r.progress) (sym e) (subst (λ (x : Sphere). IsLastIf (before i) x.role x.progress) same last)
      )
  | inr ne ↦ all j r (sym (get-set_other ps i j q ne) ∙ there)
]

chunk_all : (before : ℕ → Option ℕ) (z : Numbers) (x : SerialState) (i k : ℕ) (how : How) (n limit : ℕ) (p : Sphere) (o : Option Parts) → slice_get x.spheres i ≡ Some p → AreLast before x.spheres → AreLast before (move_chunk z x i k how n limit p o).spheres
unfolding chunk_moved
chunk_all before z x i k how n limit p None is all = all
chunk_all before z x i k how n limit p (Some t) is all =
    set_last before x.spheres i p _ is all (chunk_last (before i) p.role k (is_piece how) (is_short z.s how limit) (run p.memory t n) x.devices p (all i p is))

serial_all : (before : ℕ → Option ℕ) (x : SerialState) (i k moment : ℕ) (p : Sphere) (o : Option Parts) → slice_get x.spheres i ≡ Some p → AreLast before x.spheres → AreLast before (do_serial x i k moment p o).spheres
unfolding serial_moved
serial_all before x i k moment p None is all = all
serial_all before x i k moment p (Some t) is all = set_last before x.spheres i p _ is all (serial_last (before i) p.role k moment t x.devices p (all i p is))

dma_all : (before : ℕ → Option ℕ) (x : SerialState) (i : ℕ) (p : Sphere) (o : Option MovedSphere) → slice_get x.spheres i ≡ Some p → AreLast before x.spheres → LastIf (before i) o → AreLast before (do_dma x i o).spheres
dma_all before x i p None is all last = all
dma_all before x i p (Some v) is all last = set_last before x.spheres i p (laid v) is all last

raise_all : (before : ℕ → Option ℕ) (x : SerialState) (i k value : ℕ) (p : Sphere) (o : Option Parts) → slice_get x.spheres i ≡ Some p → AreLast before x.spheres → AreLast before (do_raise x i k value p o).spheres
unfolding raised
raise_all before x i k value p None is all = all
raise_all before x i k value p (Some t) is all = set_last before x.spheres i p (raised k value t p) is all (λ order. all i p is (raised_order k t.commits value p.role order))

what_all : (before : ℕ → Option ℕ) (z : Numbers) (x : SerialState) (moment i : ℕ) (p : Sphere) (what : MoveKind) → slice_get x.spheres i ≡ Some p → AreLast before x.spheres → AreLast before (do_by_kind z x moment i p what).spheres
unfolding dma_moved
what_all before z x moment i p (OfChunk k how n limit) is all = chunk_all before z x i k how n limit p (slice_get p.threads k) is all
what_all before z x moment i p (OfSerial k) is all = serial_all before x i k moment p (slice_get p.threads k) is all
what_all before z x moment i p OfDma is all = dma_all before x i p (dma_moved x.devices p) is all (dma_last (before i) p.role x.devices p (all i p is))
what_all before z x moment i p (OfRaise k value) is all = raise_all before x i k value p (slice_get p.threads k) is all

at_all : (before : ℕ → Option ℕ) (z : Numbers) (x : SerialState) (m : Move) (o : Option Sphere) → slice_get x.spheres m.sphere ≡ o → AreLast before x.spheres → AreLast before (do_at z x m o).spheres
at_all before z x m None is all = all
at_all before z x m (Some p) is all = what_all before z x m.moment m.sphere p m.what is all

moves_all : (before : ℕ → Option ℕ) (z : Numbers) (x : SerialState) (ms : List Move) → AreLast before x.spheres → AreLast before (do_moves z x ms).spheres
unfolding do_move
moves_all before z x [] all = all
moves_all before z x (m ∷ ms) all = moves_all before z (do_move z x m) ms (at_all before z x m (slice_get x.spheres m.sphere) refl all)

-- ---- the start and all events

-- the thread that committed last before the commits of sphere i
abbrev before_in : Setup → (i : ℕ) → Option ℕ
before_in s i = elim (slice_get s.spheres i) [ None ↦ None | Some image ↦ last_before s.numbers.s image ]

as_last : (z : ℕ) (image : SphereSetup) (r : RoleSetup) → let p = sphere_as z image r in IsLastIf p.progress.last p.role p.progress
as_last z image IsPlain order = refl
as_last z image (IsRecorded asked) order = refl
as_last z image (IsReplayed asked) order = refl

first_last : (z : ℕ) (o : Option SphereSetup) (p : Sphere) → option_map (sphere_of z) o ≡ Some p → IsLastIf (elim o [ None ↦ None | Some image ↦ last_before z image ]) p.role p.progress
first_last z None p e = absurd (none-some p e)
first_last z (Some image) p e =
    subst (λ (q : Sphere). IsLastIf (last_before z image) q.role q.progress) (let h : sphere_of z image ≡ p = cc in h) (as_last z image image.role)

start_all : (s : Setup) → AreLast (before_in s) (serial_start s).spheres
start_all s i p e = first_last s.numbers.s (slice_get s.spheres i) p (sym (slice_get-map (sphere_of s.numbers.s) s.spheres i) ∙ e)

-- the thread that committed last is the last one among the sphere's commits, or before them, after every schedule
pub spheres_keep_lasts : SpheresKeepLasts
unfolding shown
spheres_keep_lasts s es i image p is start there order =
    let w : World = after s es in
    let l : i < length w.spheres = slice_get_within w.spheres i p there in
    let same : sphere_at w i ≡ p = get_or_from_slice_get w.spheres i p no_sphere there in
    let all : AreLast (before_in s) (shown_of w).spheres =
    subst (λ (x : SerialState). AreLast (before_in s) x.spheres) (sym (moves_are s es is).same)
    (moves_all (before_in s) s.numbers (serial_start s) (moves (world_of s) es) (start_all s))
    in
    let before : before_in s i ≡ last_before s.numbers.s image =
    ap (λ (o : Option SphereSetup). elim o as (λ (x : Option SphereSetup). Option ℕ) [ None ↦ None | Some x ↦ last_before s.numbers.s x ]) start in
    subst (λ (a : Option ℕ). IsLastSince a p.progress) before
    (subst (λ (q : Sphere). IsLastIf (before_in s i) q.role q.progress) same (all i (shown w.slots i (sphere_at w i)) (shown-get w.slots i w.spheres l)) order)
