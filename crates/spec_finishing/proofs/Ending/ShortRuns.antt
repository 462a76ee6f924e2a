-- A run of a setup within its limits, of up to 2^32 events, is finished before 2^63.
use Rattle.std.proofs.Common.{◌≡◌, ℕ, suc, ◌+◌, ◌*◌, ◌^◌, ◌<◌, ◌≤◌, false, eqb, List, [], ◌∷◌, ◌++◌, length, Option, Some, None, refl, sym, ap, ◌∙◌, subst, arith}
use Rattle.std.specs.Prelude.{slice_get}
use Rattle.std.proofs.lemmas.Bool.{true≢false}
use Rattle.dl_entry.specs.Numbers.{most_chunk, plain_threads}
use Rattle.dl_entry.specs.declared.Input.{Input}
use Rattle.dl_entry.specs.declared.Request.{Request}
use Rattle.spec_isa.specs.declared.thread.Parts.{Parts}
use Rattle.spec_isa.specs.Words.{Stored, lay, lays, IsBytes}
use Rattle.spec_kernel.specs.Devices.{Devices, HaveByteInput}
use Rattle.spec_kernel.specs.Needs.{Need, need}
use Rattle.spec_kernel.specs.Answers.{Taken, taken, dma_bytes}
use Rattle.spec_play.specs.declared.interval.Interval.{Interval}
use Rattle.spec_play.specs.Progress.{position}
use Rattle.spec_play.specs.Intervals.{commits_in, IsWithinIf}
use Rattle.spec_engine.specs.declared.answers.How.{How}
use Rattle.spec_engine.specs.Flights.{Flight, at}
use Rattle.spec_protocol.specs.declared.event.Event.{Event}
use Rattle.spec_sphere.specs.sphere.Spheres.{Role, Plain, Record, Replay, Sphere, limit_of, replays}
use Rattle.spec_sphere.specs.sphere.Commits.{serial_in, serial_moved, live_dma, dma_log, dma_in, dma_moved}
use Rattle.spec_protocol.specs.machine.World.{Numbers, World, MoveKind, OfChunk, OfSerial, OfDma, OfRaise, Move, sphere_at}
use Rattle.spec_sphere.specs.sphere.Setups.{first_played, RoleSetup, IsPlain, IsRecorded, IsReplayed, SphereSetup}
use Rattle.spec_protocol.specs.machine.Machine.{Setup, world_of, happens, moves}
use Rattle.spec_protocol.specs.machine.Serial.{SerialState}
use Rattle.spec_engine.specs.Flying.{words_of, flying}
use Rattle.spec_protocol.specs.machine.Shown.{shown_of}
use Rattle.spec_protocol.specs.machine.Moves.{ChunkFits, FitsChunk, FitsWhat, FitsAt, FitsIf}
use Rattle.spec_protocol.specs.promises.Invariants.{current}
use Rattle.spec_protocol.specs.promises.Promises.{after}
use Rattle.spec_sphere.specs.promises.Notable.{IsInputIf}
use Rattle.spec_sphere.specs.promises.Sound.{IsRole, IsImage, HaveBytes, IsSoundRequest, IsSoundIf, IsSoundRole}
use Rattle.spec_protocol.specs.promises.Sound.{IsWithinLimits, image_at, IsSound}
use Rattle.spec_protocol.proofs.Invariants.Schedules.{happens-preserved, start-shown}
use Rattle.spec_protocol.proofs.Invariants.Asks.{shown_at, shown_over}
use Rattle.spec_sphere.proofs.Moves.AnyMemory.{over}
use Rattle.spec_play.proofs.Threads.{branch}
use Rattle.spec_protocol.proofs.Points.Serial.{shown_length}
use Rattle.spec_sphere.proofs.Sound.Words.{lay-bytes}
use Rattle.spec_sphere.proofs.Sound.Devices.{IsSoundTaken, taken-sound, dma-few}
use Rattle.spec_sphere.proofs.Sound.Limits.{limit-most}
use Rattle.spec_protocol.proofs.Sound.Schedules.{setup-within, worlds_sound}
use Rattle.spec_finishing.specs.Work.{setup_work, plays_work, serial_work, dma_work, kind_work, role_work, sphere_work, moves_work}
use Rattle.spec_finishing.specs.Rank.{price}
use Rattle.spec_finishing.specs.Ending.{work}
use Rattle.spec_finishing.specs.Function.{RunsAreShort, SetupsCanFinish}
use Rattle.spec_finishing.proofs.Left.Pricing.{price-least}
use Rattle.spec_finishing.proofs.Ending.Knowing.{within, known-after, after-event}
use Rattle.spec_finishing.proofs.Left.Spending.{if_work}
use Rattle.spec_finishing.proofs.Ending.Bounding.{event_work}
use Rattle.spec_finishing.proofs.Ending.Short.{FewIf, record-few, serve-most, dma-most, commits-few}

-- ---- plays

few_in : (count : ℕ) (i : Option Interval) → IsWithinIf count i → commits_in count i ≤ count
few_in count None is = omega arith
few_in count (Some i) is = let most = is.most in omega (arith, most)

setup-few : (s : ℕ) (image : SphereSetup) (r : RoleSetup) → IsRole s r → setup_work image r ≤ 65541 * 2 ^ 24
setup-few s image IsPlain is = omega arith
setup-few s image (IsRecorded asked) is = omega arith
setup-few s image (IsReplayed asked) is =
    let l = commits-few asked.log (first_played image asked) 0 (commits_in asked.log.count asked.interval) is.0 in
    let few = few_in asked.log.count asked.interval is.1 in
    let c = is.0.count in
    omega (arith, l, few, c)

plays-few : (s : ℕ) (ds : List SphereSetup) → ((i : ℕ) (d : SphereSetup) → slice_get ds i ≡ Some d → IsImage s d) → plays_work ds ≤ (65541 * 2 ^ 24) * length ds
plays-few s [] each = omega arith
plays-few s (d ∷ ds) each =
    let a = setup-few s d d.role (each 0 d refl).role in
    let b = plays-few s ds (λ i x e. each (suc i) x e) in
    omega (arith, a, b)

-- ---- the current memory holds bytes

append-bytes : (ws vs : List Stored) → HaveBytes ws → HaveBytes vs → HaveBytes (ws ++ vs)
append-bytes [] vs h k = k
append-bytes (w ∷ ws) vs h k = (h.0, append-bytes ws vs h.1 k)

flying-bytes : (i : ℕ) (xs : List (Option Flight)) → ((k : ℕ) (f : Flight) → at xs k ≡ Some f → HaveBytes f.words) → HaveBytes (flying i xs)
flying-bytes i [] each = tt
flying-bytes i (None ∷ xs) each = flying-bytes i xs (λ k f e. each (suc k) f e)
flying-bytes i (Some f ∷ xs) each =
    append-bytes (words_of i (Some f)) (flying i xs)
    (branch HaveBytes (eqb f.sphere i) f.words [] (λ _. each 0 f refl) (λ _. tt))
    (flying-bytes i xs (λ k g e. each (suc k) g e))

lays-bytes : (m : List ℕ) (ws : List Stored) → HaveBytes ws → IsBytes m → IsBytes (lays m ws)
lays-bytes m [] h bytes = bytes
lays-bytes m (w ∷ ws) h bytes = lays-bytes (lay m w) ws h.1 (lay-bytes m w h.0 bytes)

current-bytes : (s : Setup) (w : World) (i : ℕ) → IsSound s w → i < length w.spheres → IsBytes (current w i)
current-bytes s w i sound l =
    lays-bytes (sphere_at w i).memory (flying i w.slots) (flying-bytes i w.slots (λ k f e. (sound.flights k f e).bytes)) (sound.spheres i l).bytes

-- ---- a move's work

-- what a shown sphere has of a sound one
record IsFew (z : Numbers) (devices : Devices) (p : Sphere) : Type 0 where
  limits : (k : ℕ) (t : Parts) → limit_of z.s p.role k t ≤ most_chunk
  bytes : IsBytes p.memory
  input : HaveByteInput devices
  request : (q : Request) → p.progress.request ≡ Some q → q.len ≤ 4096

fits-limit : (z : Numbers) (p : Sphere) (k : ℕ) (t : Parts) (how : How) (n limit : ℕ) → ChunkFits z p k t how n limit → n ≤ limit
fits-limit z p k t How.Limit n limit f = let e = f.full refl in omega (arith, e)
fits-limit z p k t How.Serial n limit f = let l = f.early (λ h. cc) in omega (arith, l)
fits-limit z p k t How.Overflow n limit f = let l = f.early (λ h. cc) in omega (arith, l)
fits-limit z p k t How.Cut n limit f = let l = f.early (λ h. cc) in omega (arith, l)

chunk-few : (z : Numbers) (devices : Devices) (p : Sphere) (k : ℕ) (how : How) (n limit : ℕ) (o : Option Parts) → IsFew z devices p → FitsChunk z p k how n limit o → suc n ≤ 65541
chunk-few z devices p k how n limit None few fits = absurd fits
chunk-few z devices p k how n limit (Some t) few fits =
    let a = fits-limit z p k t how n limit fits in let b = fits.limited in let c = few.limits k t in omega (arith, a, b, c)

input-few : (o : Option Need) (r : Option Input) → IsInputIf r → FewIf o r
input-few o None is = tt
input-few o (Some r) is = record-few o r is.2.0

taken-few : (o : Option Need) (g : Taken) → IsSoundTaken o g → FewIf o g.input
taken-few o g sound = input-few o g.input sound.input

serial-in-few : (z : Numbers) (role : Role) (k moment : ℕ) (t : Parts) (devices : Devices) (p : Sphere) → replays role ≡ false → IsFew z devices p → length (serial_in role k moment t devices p).words ≤ 4096
serial-in-few z Plain k moment t devices p live few =
    serve-most plain_threads k p.threads p.progress.request t p.memory (taken (need t p.memory) devices moment).input (taken-few (need t p.memory) (taken (need t p.memory) devices moment) (taken-sound t p.memory devices moment few.bytes few.input))
serial-in-few z (Record recording) k moment t devices p live few =
    serve-most recording.log.threads k p.threads p.progress.request t p.memory (taken (need t p.memory) devices moment).input (taken-few (need t p.memory) (taken (need t p.memory) devices moment) (taken-sound t p.memory devices moment few.bytes few.input))
serial-in-few z (Replay b) k moment t devices p live few = absurd (true≢false live)

serial-moved-few : (z : Numbers) (k moment : ℕ) (t : Parts) (devices : Devices) (p : Sphere) → replays p.role ≡ false → IsFew z devices p → length (serial_moved k moment t devices p).words ≤ 4096
unfolding serial_moved
serial-moved-few z k moment t devices p live few = serial-in-few z p.role k moment t devices p live few

serial-few : (z : Numbers) (devices : Devices) (p : Sphere) (moment k : ℕ) (o : Option Parts) → replays p.role ≡ false → IsFew z devices p → serial_work p devices moment k o ≤ 65541
serial-few z devices p moment k None live few = omega arith
serial-few z devices p moment k (Some t) live few = let l = serial-moved-few z k moment t devices p live few in omega (arith, l)

live-dma-few : (role : Role) (devices : Devices) (p : Sphere) (o : Option Request) → ((q : Request) → o ≡ Some q → q.len ≤ 4096) → dma_work (live_dma role devices p o) ≤ 65541
live-dma-few role devices p None few = omega arith
live-dma-few role devices p (Some q) few =
    let a = dma-few devices q in let b = few q refl in let l = dma-most q (dma_bytes devices q) (omega (arith, a, b)) in omega (arith, l)

dma-in-few : (z : Numbers) (role : Role) (devices : Devices) (p : Sphere) → replays role ≡ false → IsFew z devices p → dma_work (dma_in role devices p) ≤ 65541
dma-in-few z Plain devices p live few = live-dma-few Plain devices p p.progress.request few.request
dma-in-few z (Record recording) devices p live few = live-dma-few (Record (record recording { log = dma_log recording.log devices p p.progress.request })) devices p p.progress.request few.request
dma-in-few z (Replay b) devices p live few = absurd (true≢false live)

dma-moved-few : (z : Numbers) (devices : Devices) (p : Sphere) → replays p.role ≡ false → IsFew z devices p → dma_work (dma_moved devices p) ≤ 65541
unfolding dma_moved
dma-moved-few z devices p live few = dma-in-few z p.role devices p live few

what-few : (z : Numbers) (devices : Devices) (p : Sphere) (moment : ℕ) (a : MoveKind) → replays p.role ≡ false → IsFew z devices p → FitsWhat z devices p a → kind_work p devices moment a ≤ 65541
what-few z devices p moment (OfChunk k how n limit) live few fits = chunk-few z devices p k how n limit (slice_get p.threads k) few fits
what-few z devices p moment (OfSerial k) live few fits = serial-few z devices p moment k (slice_get p.threads k) live few
what-few z devices p moment OfDma live few fits = dma-moved-few z devices p live few
what-few z devices p moment (OfRaise k value) live few fits = omega arith

role-few : (p : Sphere) (devices : Devices) (m : Move) (role : Role) → (replays role ≡ false → kind_work p devices m.moment m.what ≤ 65541) → role_work p devices m role ≤ 65541
role-few p devices m Plain few = few refl
role-few p devices m (Record recording) few = few refl
role-few p devices m (Replay b) few = omega arith

at-few : (z : Numbers) (devices : Devices) (m : Move) (o : Option Sphere) → ((p : Sphere) → o ≡ Some p → IsFew z devices p) → FitsAt z devices m o → sphere_work devices m o ≤ 65541
at-few z devices m None few fits = absurd fits
at-few z devices m (Some p) few fits = role-few p devices m p.role (λ live. what-few z devices p m.moment m.what live (few p refl) fits)

-- ---- an event's work

shown-within : (w : World) (i : ℕ) (p : Sphere) → slice_get (shown_of w).spheres i ≡ Some p → i < length w.spheres
shown-within w i p e = let l = within (shown_of w).spheres i p e in let k = shown_length w.slots 0 w.spheres in omega (arith, l, k)

shown-few : (s : Setup) (w : World) (i : ℕ) (p : Sphere) → IsWithinLimits s → IsSound s w → slice_get (shown_of w).spheres i ≡ Some p → IsFew w.numbers w.devices p
shown-few s w i p limits sound e =
    let l : i < length w.spheres = shown-within w i p e in
    let q = sphere_at w i in
    let k = sound.spheres i l in
    let same : over (current w i) q ≡ p = (let o : Some (over (current w i) q) ≡ Some p = sym (shown_at w i l ∙ ap Some (shown_over w i)) ∙ e in cc) in
    subst (IsFew w.numbers w.devices) same (record {
      limits = λ j t. limit-most w.numbers.s (position q.progress) q.threads q.role j t (subst (λ (z : Numbers). z.s ≤ most_chunk) (sym sound.sizes.numbers) limits.chunk.1)
          (subst (λ (z : Numbers). IsSoundRole z.s (position q.progress) q.threads q.role) (sym sound.sizes.numbers) k.role);
      bytes = current-bytes s w i sound l;
      input = sound.devices;
      request = λ r h. (let c : IsSoundRequest (length (image_at s i).memory) r = subst (IsSoundIf (length (image_at s i).memory)) h k.request in c.few);
    })

if-few : (s : Setup) (w : World) (o : Option Move) → IsWithinLimits s → IsSound s w → FitsIf w.numbers (shown_of w) o → if_work (shown_of w) o ≤ 65541
if-few s w None limits sound fits = omega arith
if-few s w (Some m) limits sound fits =
    at-few w.numbers w.devices m (slice_get (shown_of w).spheres m.sphere) (λ p e. shown-few s w m.sphere p limits sound e) fits

-- ---- a schedule

-- a setup within the limits can finish
pub setups_finish : SetupsCanFinish
setups_finish s limits =
    record {
      setup = setup-within s limits;
      cores = (let l = limits.cores.0 in omega (arith, l));
      window = (let l = limits.window.0 in omega (arith, l));
      standard = λ i image asked there replays_.
          let is = subst (IsRole s.numbers.s) replays_ (limits.images i image there).role in
          let l = is.0.s.0 in
          omega (arith, l);
      strata = λ i image asked there replays_. (limits.images i image there).strata asked replays_;
    }

schedule-few : (s : Setup) → IsWithinLimits s → (before es : List Event) → moves_work s.numbers (shown_of (after s before)) (moves (after s before) es) ≤ 65541 * length es
schedule-few s limits before [] = omega arith
schedule-few s limits before (e ∷ es) =
    let w = after s before in
    let a = happens w e in
    let known = known-after s before (setups_finish s limits) in
    let r = subst (λ (v : World). moves_work s.numbers (shown_of v) (moves v es) ≤ 65541 * length es) (after-event (world_of s) before e) (schedule-few s limits (before ++ e ∷ []) es) in
    let one_ = if-few s w a.move limits (worlds_sound s before limits) (happens-preserved w e known.good).fits in
    let split = event_work s w e es known in
    omega (arith, r, one_, split)

work-few : (s : Setup) (es : List Event) → IsWithinLimits s → length es ≤ 2 ^ 32 → work s es ≤ 8 * (65541 * 2 ^ 24) + 65541 * 2 ^ 32
work-few s es limits few =
    let a = plays-few s.numbers.s s.spheres limits.images in
    let n = limits.few.1 in
    let b = schedule-few s limits [] es in
    let same = ap (λ (x : SerialState). moves_work s.numbers x (moves (world_of s) es)) (start-shown s) in
    omega (arith, a, n, b, same, few)

price-few : (c work_ : ℕ) → c ≤ 8 → work_ ≤ 8 * (65541 * 2 ^ 24) + 65541 * 2 ^ 32 → (c + 6) * work_ ≤ 14 * (8 * (65541 * 2 ^ 24) + 65541 * 2 ^ 32)
unfolding price
price-few c work_ cores few =
    let l = price-least c work_ (8 * (65541 * 2 ^ 24) + 65541 * 2 ^ 32) few in omega (arith, l, cores)

-- a run of up to 2^32 events is finished before 2^63
pub runs_short : RunsAreShort
runs_short s es limits few =
    let l = price-few s.cores (work s es) limits.cores.1 (work-few s es limits few) in omega (arith, l, few)
