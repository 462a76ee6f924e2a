-- The first event of a schedule commits nothing in a plain or recorded sphere, and each further one at most once: such a
-- sphere has fewer commits than there were events.
use Rattle.std.proofs.Common.{◌≡◌, ℕ, zero, suc, ◌+◌, ◌<◌, Bool, true, false, List, [], ◌∷◌, length, Option, Some, None, refl, sym, ap, ◌∙◌, subst, arith, map, set, get_or}
use Rattle.std.specs.Prelude.{slice_get}
use Rattle.std.proofs.lemmas.Bool.{true≢false}
use Rattle.std.proofs.lemmas.Option.{none-some}
use Rattle.dl_entry.specs.Numbers.{plain_threads}
use Rattle.dl_entry.specs.declared.Counts.{Counts}
use Rattle.dl_entry.specs.declared.Request.{Request}
use Rattle.spec_isa.specs.declared.thread.Parts.{Parts}
use Rattle.spec_isa.specs.Runs.{Run}
use Rattle.spec_kernel.specs.Devices.{Devices}
use Rattle.spec_kernel.specs.Answers.{taken}
use Rattle.spec_kernel.specs.Interrupts.{is_live}
use Rattle.spec_kernel.specs.Needs.{need}
use Rattle.spec_kernel.specs.Serving.{serve}
use Rattle.spec_play.specs.Effects.{Effect, chunk_effect, serial_effect, dma_commit}
use Rattle.spec_play.specs.Progress.{Progress, position, no_progress}
use Rattle.spec_play.specs.Verdicts.{LogVerdict, Goes, Fails, chunk_verdict, serial_verdict}
use Rattle.spec_play.specs.Transfers.{DmaVerdict, DmaGoes, DmaFails, dma_verdict}
use Rattle.spec_engine.specs.declared.answers.Deliver.{Deliver}
use Rattle.spec_engine.specs.Flights.{Flight, at, drain, deliver}
use Rattle.spec_engine.specs.Chunks.{fresh}
use Rattle.spec_protocol.specs.declared.event.Event.{Event}
use Rattle.spec_sphere.specs.sphere.Spheres.{Cursor, Role, Plain, Record, Replay, Sphere, no_sphere, limit_of, halves}
use Rattle.spec_sphere.specs.sphere.Commits.{MovedSphere, granted_as, by_verdict, joined, replayed_chunk, chunk_in, chunk_moved, serial_in, serial_moved, live_dma, dma_log, dma_by_verdict, dma_in, dma_moved, role_raised, raised}
use Rattle.spec_protocol.specs.machine.World.{Numbers, Occupant, World, EventOutcome, moment, sphere_at, with_sphere, thread_afresh, core_of}
use Rattle.spec_protocol.specs.machine.Flying.{drain_slot, reads_of, writes_of, told, delivering, retiring, younger_of, hits_younger}
use Rattle.spec_sphere.specs.sphere.Spheres.{replays}
use Rattle.spec_protocol.specs.machine.Placing.{with_renewed, raise_in}
use Rattle.spec_sphere.specs.sphere.Setups.{RoleSetup, IsPlain, IsRecorded, IsReplayed, SphereSetup, sphere_as, sphere_of}
use Rattle.spec_protocol.specs.machine.Machine.{Setup, world_of, act, happens, world_after}
use Rattle.spec_protocol.specs.promises.Invariants.{IsGood}
use Rattle.spec_protocol.specs.promises.Promises.{after}
use Rattle.spec_protocol.specs.promises.Sound.{IsWithinLimits}
use Rattle.spec_play.proofs.Threads.{branch}
use Rattle.spec_protocol.proofs.Moves.AnyEvent.{any-event}
use Rattle.spec_protocol.proofs.Points.Counts.{act-untold}
use Rattle.spec_protocol.proofs.Invariants.Schedules.{happens-preserved, first_held, start-good}
use Rattle.spec_sphere.proofs.Sound.Commits.{next-position}
use Rattle.spec_protocol.proofs.Sound.Schedules.{setup-within}
use Rattle.spec_protocol.proofs.Sound.Changes.{Properties, Holds, Lands, Keeps, act-holds}
use Rattle.spec_run.specs.Promise.{SchedulesLeaveRoom}
use Rattle.spec_play.proofs.Positions.{position-more}

-- ---- fewer commits than events

-- a sphere that replays no log has fewer commits than this
abbrev Few : (now : ℕ) → Sphere → Type 0
Few now p = replays p.role ≡ false → position p.progress < now

few-later : (now : ℕ) (p : Sphere) → Few now p → Few (suc now) p
few-later now p few live = let l = few live in omega (arith, l)

granted-few : (now k : ℕ) (role : Role) (e : Effect) (devices : Devices) (p : Sphere) → position p.progress < now → Few (suc now) (granted_as role k e devices p).sphere
granted-few now k role e devices p few live = let n = next-position k e p.progress in omega (arith, n, few)

verdict-few : (now k : ℕ) (b : Cursor) (v : LogVerdict) (devices : Devices) (p : Sphere) → Few now (by_verdict b k v devices p).sphere
verdict-few now k b (Fails why) devices p live = absurd (true≢false live)
verdict-few now k b (Goes e u) devices p live = absurd (true≢false live)

replayed-few : (now k : ℕ) (b : Cursor) (piece : Bool) (r : Run) (devices : Devices) (p : Sphere) → Few now (replayed_chunk piece b k r devices p).sphere
replayed-few now k b true r devices p live = absurd (true≢false live)
replayed-few now k b false r devices p live = verdict-few now k b (chunk_verdict b.log p.progress b.used k (joined b r)) devices p live

chunk-few : (now k : ℕ) (role : Role) (piece short : Bool) (r : Run) (devices : Devices) (p : Sphere) → (replays role ≡ false → position p.progress < now) → Few (suc now) (chunk_in role k piece short r devices p).sphere
chunk-few now k Plain piece short r devices p few live = granted-few now k Plain (chunk_effect k p.progress.request r) devices p (few refl) refl
chunk-few now k (Record recording) piece short r devices p few live = granted-few now k (Record recording) (chunk_effect k p.progress.request r) devices p (few refl) refl
chunk-few now k (Replay b) piece short r devices p few live = replayed-few (suc now) k b piece r devices p live

serial-few : (now k m : ℕ) (role : Role) (t : Parts) (devices : Devices) (p : Sphere) → (replays role ≡ false → position p.progress < now) → Few (suc now) (serial_in role k m t devices p).sphere
serial-few now k m Plain t devices p few live =
    let g = taken (need t p.memory) devices m in
    granted-few now k Plain (serial_effect k (serve plain_threads k p.threads p.progress.request t p.memory g.input)) devices p (few refl) refl
serial-few now k m (Record recording) t devices p few live =
    let g = taken (need t p.memory) devices m in
    granted-few now k (Record recording) (serial_effect k (serve recording.log.threads k p.threads p.progress.request t p.memory g.input)) devices p (few refl) refl
serial-few now k m (Replay b) t devices p few live =
    verdict-few (suc now) k b (serial_verdict b.log p.progress b.used k p.threads t p.memory) devices p live

-- a live DMA is one more commit
live-few : (now : ℕ) (role : Role) (devices : Devices) (p : Sphere) (request : Option Request) (v : MovedSphere) → position p.progress < now → live_dma role devices p request ≡ Some v → Few (suc now) v.sphere
live-few now role devices p None v few e live = absurd (none-some v e)
live-few now role devices p (Some request) v few e live =
    let q = ap (λ (o : Option MovedSphere). elim o as (λ (x : Option MovedSphere). ℕ) [ None ↦ 0 | Some x ↦ position x.sphere.progress ]) e in
    let n = position-more p.progress dma_commit in
    omega (arith, q, n, few)

dma-verdict_few : (now : ℕ) (b : Cursor) (d : DmaVerdict) (devices : Devices) (p : Sphere) → Few now (dma_by_verdict b d devices p).sphere
dma-verdict_few now b (DmaFails why) devices p live = absurd (true≢false live)
dma-verdict_few now b (DmaGoes words) devices p live = absurd (true≢false live)

moved-is : (P : Sphere → Type 0) (x v : MovedSphere) → Some x ≡ Some v → P x.sphere → P v.sphere
moved-is P x v e k = subst (λ (y : MovedSphere). P y.sphere) (let q : x ≡ v = cc in q) k

dma-few : (now : ℕ) (role : Role) (devices : Devices) (p : Sphere) (v : MovedSphere) → (replays role ≡ false → position p.progress < now) → dma_in role devices p ≡ Some v → Few (suc now) v.sphere
dma-few now Plain devices p v few e live = live-few now Plain devices p p.progress.request v (few refl) e live
dma-few now (Record recording) devices p v few e live = live-few now (Record (record recording { log = dma_log recording.log devices p p.progress.request })) devices p p.progress.request v (few refl) e live
dma-few now (Replay b) devices p v few e live =
    let d = dma_verdict b.log p.progress b.used in
    moved-is (Few (suc now)) (dma_by_verdict b d devices p) v e (dma-verdict_few (suc now) b d devices p) live

-- an interrupt leaves a sphere what it is
still-live : (k commits value : ℕ) (role : Role) → replays (role_raised k commits value role) ≡ replays role
still-live k commits value Plain = refl
still-live k commits value (Record recording) = refl
still-live k commits value (Replay b) = refl

-- ---- each further event

abbrev fewer : Properties
fewer =
    record {
      sphere = λ now i p. Few now p;
      flight = λ f. Unit {0};
      held = λ h. Unit {0};
      devices = λ d. Unit {0};
    }

landed : (now i : ℕ) (v : MovedSphere) → Few now v.sphere → Lands fewer now i v
landed now i v few = record { sphere = few; flight = λ writes told. tt; devices = tt }

chunk-lands : (w : World) (i k : ℕ) (piece short : Bool) (r : Run) → Few (moment w) (sphere_at w i) → Lands fewer (suc (moment w)) i (chunk_moved k piece short r w.devices (sphere_at w i))
unfolding chunk_moved
chunk-lands w i k piece short r few =
    let p = sphere_at w i in
    landed (suc (moment w)) i (chunk_in p.role k piece short r w.devices p) (chunk-few (moment w) k p.role piece short r w.devices p few)

serial-lands : (w : World) (i k : ℕ) (t : Parts) → Few (moment w) (sphere_at w i) → Lands fewer (suc (moment w)) i (serial_moved k (moment w) t w.devices (sphere_at w i))
unfolding serial_moved
serial-lands w i k t few =
    let p = sphere_at w i in
    landed (suc (moment w)) i (serial_in p.role k (moment w) t w.devices p) (serial-few (moment w) k (moment w) p.role t w.devices p few)

dma-lands : (w : World) (i : ℕ) (v : MovedSphere) → dma_moved w.devices (sphere_at w i) ≡ Some v → Few (moment w) (sphere_at w i) → Lands fewer (suc (moment w)) i v
unfolding dma_moved
dma-lands w i v e few =
    let p = sphere_at w i in
    landed (suc (moment w)) i v (dma-few (moment w) p.role w.devices p v few e)

raised-few : (now k value : ℕ) (t : Parts) (p : Sphere) → Few now p → Few now (raised k value t p)
unfolding raised
raised-few now k value t p few live = few (sym (still-live k t.commits value p.role) ∙ live)

fewer-keeps : (z : Numbers) → Keeps z fewer
fewer-keeps z =
    record {
      later = λ now i p k. few-later now p k;
      stepped = λ now c p slots h sphere opened none k. tt;
      cut_younger = λ h y there same k. tt;
      cut = λ h none k. tt;
      younger = λ now c p slots h y sphere same is k. tt;
      squashed = λ h k. tt;
      squashed_younger = λ h k. tt;
      promoted = λ h y there same k. tt;
      afresh = λ now i k p t sphere is live. tt;
      told = λ f c k. tt;
      drained = λ now f s ss p e k few. (tt, few);
      chunk = λ w c h how numbers asks k.
          chunk-lands w h.chunk.sphere h.thread _ _ h.chunk.done (k.spheres h.chunk.sphere (asks.good.held c h asks.is).sphere);
      serial = λ w c h how asks k.
          serial-lands w h.chunk.sphere h.thread h.chunk.start (k.spheres h.chunk.sphere (asks.good.held c h asks.is).sphere);
      dma = λ w i v t k. dma-lands w i v t.is (k.spheres i t.within);
      raised = λ now i k value t p r few. few-later now (raised k value t p) (raised-few now k value t p few);
    }

-- ---- the first event

-- a sphere that replays no log has done nothing
abbrev IsNew : Sphere → Type 0
IsNew p = replays p.role ≡ false → p.progress ≡ no_progress

abbrev AreNew : List Sphere → Type 0
AreNew ps = (i : ℕ) → IsNew (get_or ps i no_sphere)

-- no chunk is closed yet
record HasBegun (w : World) : Type 0 where
  spheres : AreNew w.spheres
  cores : (c : ℕ) (h : Occupant) → at w.cores c ≡ Some h → h.chunk.closed ≡ None

new-set : (ps : List Sphere) (i : ℕ) (q : Sphere) → IsNew q → AreNew ps → AreNew (set ps i q)
new-set [] i q new old j = old j
new-set (p ∷ ps) zero q new old zero = new
new-set (p ∷ ps) zero q new old (suc j) = old (suc j)
new-set (p ∷ ps) (suc i) q new old zero = old zero
new-set (p ∷ ps) (suc i) q new old (suc j) = new-set ps i q new (λ n. old (suc n)) j

-- the spheres after the event are
abbrev Then : EventOutcome → Type 0
Then a = AreNew a.world.spheres

drain-then : (w : World) (k : ℕ) (f : Flight) → AreNew w.spheres → Then (drain_slot w k (Some f))
drain-then w k f new =
    let p = sphere_at w f.sphere in
    new-set w.spheres f.sphere (record p { memory = (drain p.memory (Some f)).memory }) (new f.sphere) new

told-then : (w : World) (c : ℕ) (o : Option Occupant) (d : Deliver) (hit : Bool) → AreNew w.spheres → Then (told w c o d hit)
told-then w c o Deliver.NoCommit hit new = new
told-then w c o Deliver.Already hit new = new
told-then w c o Deliver.Squashed hit new = new
told-then w c o Deliver.Delivered true new = new
told-then w c o Deliver.Delivered false new = new

deliver-then : (w : World) (c k : ℕ) → AreNew w.spheres → Then (delivering w c k)
unfolding delivering
deliver-then w c k new =
    let o = at w.cores c in
    let d = deliver c (reads_of w o) (writes_of w o) (at w.slots k) in
    told-then (record w { slots = set w.slots k d.slot }) c o d.reply (hits_younger (at w.slots k) (younger_of o)) new

retire-then : (w : World) (k : ℕ) → AreNew w.spheres → Then (retiring w k)
unfolding retiring
retire-then w k new = new

renewed-then : (w : World) (i k : ℕ) (o : Option ℕ) → AreNew w.spheres → AreNew (with_renewed w i k o).spheres
renewed-then w i k None new = new
renewed-then w i k (Some c) new = new

raised-new : (k value : ℕ) (t : Parts) (p : Sphere) → IsNew p → IsNew (raised k value t p)
unfolding raised
raised-new k value t p new live = new (sym (still-live k t.commits value p.role) ∙ live)

raise-in-then : (w : World) (i k value : ℕ) (t : Parts) → AreNew w.spheres → Then (raise_in w i k value t)
raise-in-then w i k value t new =
    let q = raised k value t (sphere_at w i) in
    renewed-then (with_sphere w i q) i k (core_of w i k) (new-set w.spheres i q (raised-new k value t (sphere_at w i) (new i)) new)

-- a live DMA needs a request
no-live : (role : Role) (devices : Devices) (p : Sphere) (v : MovedSphere) → p.progress ≡ no_progress → live_dma role devices p p.progress.request ≡ Some v → ⊥
no-live role devices p v new e =
    none-some v (sym (ap (λ (y : Progress). live_dma role devices p y.request) new) ∙ e)

replays-still : (b : Cursor) (d : DmaVerdict) (devices : Devices) (p : Sphere) → replays (dma_by_verdict b d devices p).sphere.role ≡ false → ⊥
replays-still b (DmaFails why) devices p live = true≢false live
replays-still b (DmaGoes words) devices p live = true≢false live

dma-new : (role : Role) (devices : Devices) (p : Sphere) (v : MovedSphere) → (replays role ≡ false → p.progress ≡ no_progress) → dma_in role devices p ≡ Some v → IsNew v.sphere
dma-new Plain devices p v new e live = absurd (no-live Plain devices p v (new refl) e)
dma-new (Record recording) devices p v new e live = absurd (no-live (Record (record recording { log = dma_log recording.log devices p p.progress.request })) devices p v (new refl) e)
dma-new (Replay b) devices p v new e live =
    let d = dma_verdict b.log p.progress b.used in
    absurd (moved-is (λ (q : Sphere). replays q.role ≡ false → ⊥) (dma_by_verdict b d devices p) v e (replays-still b d devices p) live)

moved-new : (w : World) (i : ℕ) (v : MovedSphere) → AreNew w.spheres → dma_moved w.devices (sphere_at w i) ≡ Some v → IsNew v.sphere
unfolding dma_moved
moved-new w i v new is = dma-new (sphere_at w i).role w.devices (sphere_at w i) v (new i) is

first-then : (w : World) (e : Event) → HasBegun w → Then (act w e)
first-then w e k =
    any-event w Then
    (record {
      answers = λ r none. k.spheres;
      steps = λ c h is opened. k.spheres;
      youngers = λ c h y is e opened. k.spheres;
      cuts = λ c h is none. k.spheres;
      cut_youngers = λ c h y is e. k.spheres;
      chunks = λ c h how may chunk none. absurd (none-some how (sym (k.cores c h may.is) ∙ may.closed));
      serials = λ c h how may serial none. absurd (none-some how (sym (k.cores c h may.is) ∙ may.closed));
      drains = λ j f is. drain-then w j f k.spheres;
      delivers = λ c j. deliver-then w c j k.spheres;
      retires = λ j. retire-then w j k.spheres;
      places = λ c i j t is live none. k.spheres;
      raises = λ i j value t r. raise-in-then w i j value t k.spheres;
      transfers = λ i v t free none. new-set w.spheres i v.sphere (moved-new w i v k.spheres t.is) k.spheres;
      diverges = λ i v j why t is. new-set w.spheres i v.sphere (moved-new w i v k.spheres t.is) k.spheres;
    })
    e

-- ---- the start

role-new : (s : ℕ) (d : SphereSetup) (r : RoleSetup) → IsNew (sphere_as s d r)
role-new s d IsPlain live = refl
role-new s d (IsRecorded asked) live = refl
role-new s d (IsReplayed asked) live = absurd (true≢false live)

first-new : (s : ℕ) (d : SphereSetup) → IsNew (sphere_of s d)
first-new s d = role-new s d d.role

start-new : (s : ℕ) (ds : List SphereSetup) → AreNew (map (sphere_of s) ds)
start-new s [] i live = refl
start-new s (d ∷ ds) zero live = first-new s d live
start-new s (d ∷ ds) (suc i) live = start-new s ds i live

afresh-open : (z : Numbers) (i k : ℕ) (p : Sphere) (o : Option Parts) (h : Occupant) → thread_afresh z i k p o ≡ Some h → h.chunk.closed ≡ None
afresh-open z i k p None h e = absurd (none-some h e)
afresh-open z i k p (Some t) h e =
    let new : Occupant = record { thread = k; chunk = fresh z.bits i t (limit_of z.s p.role k t) (halves p.role); younger = None } in
    branch (λ (o : Option Occupant). o ≡ Some h → h.chunk.closed ≡ None) (is_live t) (Some new) None
    (λ _ q. subst (λ (x : Occupant). x.chunk.closed ≡ None) (let r : new ≡ h = cc in r) refl)
    (λ _ q. absurd (none-some h q)) e

start-begun : (s : Setup) → HasBegun (world_of s)
start-begun s =
    let ps = (world_of s).spheres in
    record {
      spheres = start-new s.numbers.s s.spheres;
      cores = λ c h e.
          afresh-open s.numbers (0 + c) 0 (get_or ps c no_sphere) (slice_get (get_or ps c no_sphere).threads 0) h (first_held s.numbers 0 s.cores c ps h e).1;
    }

-- ---- schedules

counted-moment : (w : World) (e : Event) → moment (happens w e).world ≡ suc (moment w)
unfolding happens
counted-moment w e = let h = ap (λ (n : Counts). n.events) (act-untold w e).counts in omega (arith, h)

-- after that many events
record IsRoomy (n : ℕ) (w : World) : Type 0 where
  good : IsGood w
  count : moment w ≡ n
  few : Holds fewer n w

at-moment : (m n : ℕ) (w : World) → m ≡ n → Holds fewer m w → Holds fewer n w
at-moment m n w e k = subst (λ (x : ℕ). Holds fewer x w) e k

happens-holds : (w : World) (e : Event) → IsGood w → Holds fewer (moment w) w → Holds fewer (suc (moment w)) (happens w e).world
unfolding happens
happens-holds w e good k =
    let h = act-holds fewer w (fewer-keeps w.numbers) good k e in
    record { spheres = h.spheres; flights = λ j f q. tt; held = λ c x q. tt; devices = tt }

next-roomy : (n : ℕ) (w : World) (e : Event) → IsRoomy n w → IsRoomy (suc n) (happens w e).world
next-roomy n w e k =
    record {
      good = (happens-preserved w e k.good).good;
      count = counted-moment w e ∙ ap suc k.count;
      few = at-moment (suc (moment w)) (suc n) (happens w e).world (ap suc k.count)
          (happens-holds w e k.good (at-moment n (moment w) w (sym k.count) k.few));
    }

new-few : (p : Sphere) → IsNew p → Few 1 p
new-few p new live = let e = ap position (new live) in omega (arith, e)

first-holds : (w : World) (e : Event) → HasBegun w → Holds fewer 1 (happens w e).world
unfolding happens
first-holds w e k =
    record {
      spheres = λ i l. new-few (sphere_at (act w e).world i) (first-then w e k i);
      flights = λ j f q. tt;
      held = λ c h q. tt;
      devices = tt;
    }

first-roomy : (s : Setup) (e : Event) → IsWithinLimits s → IsRoomy 1 (happens (world_of s) e).world
first-roomy s e limits =
    record {
      good = (happens-preserved (world_of s) e (start-good s (setup-within s limits))).good;
      count = counted-moment (world_of s) e;
      few = first-holds (world_of s) e (start-begun s);
    }

after-roomy : (n : ℕ) (w : World) (es : List Event) → IsRoomy n w → IsRoomy (n + length es) (world_after w es)
after-roomy n w [] k = let e : n ≡ n + 0 = omega arith in subst (λ (m : ℕ). IsRoomy m w) e k
after-roomy n w (e ∷ es) k =
    let q : suc n + length es ≡ n + suc (length es) = omega arith in
    subst (λ (m : ℕ). IsRoomy m (world_after (happens w e).world es)) q (after-roomy (suc n) (happens w e).world es (next-roomy n w e k))

all-counted : (w : World) (es : List Event) → moment (world_after w es) ≡ moment w + length es
all-counted w [] = omega arith
all-counted w (e ∷ es) =
    let a = counted-moment w e in let b = all-counted (happens w e).world es in omega (arith, a, b)

-- as many events are counted as the schedule has
pub schedule_counted : (s : Setup) (es : List Event) → moment (after s es) ≡ length es
schedule_counted s es = let a = all-counted (world_of s) es in omega (arith, a)

-- after at most 2^24 events a plain or recorded sphere has fewer commits
pub leaves_room : SchedulesLeaveRoom
leaves_room s [] i limits few within live =
    let e = ap position (start-new s.numbers.s s.spheres i live) in omega (arith, e)
leaves_room s (e ∷ es) i limits few within live =
    let w = (happens (world_of s) e).world in
    let l = (after-roomy 1 w es (first-roomy s e limits)).few.spheres i within live in
    omega (arith, l, few)
