-- What a run tells of a sphere that is recorded in epochs is a tail.
use Rattle.std.proofs.Common.{◌≡◌, ℕ, zero, suc, ◌+◌, ◌-◌, ◌^◌, ◌<◌, ◌≤◌, Bool, true, false, List, [], ◌∷◌, ◌++◌, length, All, Option, Some, None, refl, sym, ap, ◌∙◌, subst, arith}
use Rattle.std.specs.Prelude.{slice_get}
use Rattle.std.proofs.lemmas.List.Elements.{All-nil, All-cons, All-head, All-tail}
use Rattle.std.proofs.lemmas.Option.{none-some, same_Some, get_or_from_slice_get}
use Rattle.dl_entry.specs.declared.Point.{Point}
use Rattle.dl_entry.specs.declared.Request.{Request}
use Rattle.spec_isa.specs.declared.thread.Parts.{Parts}
use Rattle.spec_isa.specs.declared.thread.ThreadStatus.{ThreadStatus}
use Rattle.spec_log.specs.declared.LogParts.{LogParts}
use Rattle.spec_log.specs.Log.{IsLog}
use Rattle.spec_log.specs.Versions.{new_threads}
use Rattle.spec_play.specs.Progress.{position}
use Rattle.spec_protocol.specs.declared.event.Event.{Event}
use Rattle.spec_protocol.specs.machine.Kept.{epoch_of, serial_until, tail_log}
use Rattle.spec_sphere.specs.sphere.Kept.{points_until, points_since}
use Rattle.spec_protocol.specs.machine.Logged.{sphere_in, supplied}
use Rattle.spec_sphere.specs.sphere.Setups.{EpochSetup, RecordSetup, IsRecorded, SphereSetup}
use Rattle.spec_protocol.specs.machine.Machine.{Setup, world_of, world_after}
use Rattle.spec_protocol.specs.machine.Serial.{SerialState, serial_start, serial, do_points, CanDoAll}
use Rattle.spec_protocol.specs.machine.Shown.{shown}
use Rattle.spec_sphere.specs.sphere.Spheres.{Sphere, no_sphere}
use Rattle.spec_protocol.specs.machine.World.{World, moment, sphere_at}
use Rattle.spec_protocol.specs.promises.Kept.{WillKeep}
use Rattle.spec_protocol.specs.promises.LogsOfPoints.{log_of_points}
use Rattle.spec_protocol.specs.promises.Promises.{WillRecord, after}
use Rattle.spec_sphere.specs.promises.Sound.{AreEpochs, IsSoundIf, IsSoundSphere, IsSoundThread, no_image}
use Rattle.spec_protocol.specs.promises.Sound.{IsWithinLimits, image_at}
use Rattle.spec_protocol.proofs.Invariants.Schedules.{sizes_kept}
use Rattle.spec_sphere.proofs.Kept.Cutting.{commits_among, until-more, until-since}
use Rattle.spec_protocol.proofs.Kept.Cutting.{can-split}
use Rattle.spec_protocol.proofs.Kept.Base.{sphere-holds, kept-so}
use Rattle.spec_protocol.proofs.Kept.Plays.{commits_at, points_grow}
use Rattle.spec_protocol.proofs.Kept.Standing.{Stand, stands}
use Rattle.spec_protocol.proofs.Kept.Tails.{done-among, tails_of_points}
use Rattle.spec_protocol.proofs.PlayingBack.WholeLogs.{stands-so}
use Rattle.spec_sphere.proofs.Points.KeptLogs.{Keeps}
use Rattle.spec_protocol.proofs.Points.Logs.{how_kept}
use Rattle.spec_protocol.proofs.Points.Serial.{commits_are}
use Rattle.spec_sphere.proofs.Sound.Between.{IsSaved as Saves, HasCause, IsPresent, KeepsResting}
use Rattle.spec_protocol.proofs.Sound.Between.{sphere-rests}
use Rattle.spec_protocol.proofs.Sound.Schedules.{setup-within, worlds_sound}
use Rattle.std.proofs.lemmas.Option.{slice_get_within}
use Rattle.spec_finishing.specs.Function.{finished, finishing_of}
use Rattle.spec_tail.specs.Tails.{Tail, IsStatus, IsSaved, IsThreadAt, IsSize, IsRequest, IsLast, IsTail, words_of}
use Rattle.spec_run.specs.Runs.{executed}
use Rattle.spec_run.specs.Tails.{base_in, tail_at, tail_of_points}
use Rattle.spec_run.specs.Promise.{HasWords, IsCode, TailsAreTails}
use Rattle.spec_finishing.proofs.Ending.Played.{after_both}
use Rattle.spec_run.proofs.Tails.{base-within, epochs-so, keeps-some, sphere-then}

-- ---- of each thread

all-of : (P : Parts → Type 0) (ps : List Parts) → ((j : ℕ) (p : Parts) → slice_get ps j ≡ Some p → P p) → All P ps
all-of P [] each = All-nil P
all-of P (p ∷ ps) each = All-cons P p ps (each 0 p refl) (all-of P ps (λ j q e. each (suc j) q e))

each-of : (P : Parts → Type 0) (ps : List Parts) (j : ℕ) (p : Parts) → All P ps → slice_get ps j ≡ Some p → P p
each-of P [] j p all e = absurd (none-some p e)
each-of P (q ∷ ps) zero p all e = subst P (same_Some q p e) (All-head P q ps all)
each-of P (q ∷ ps) (suc j) p all e = each-of P ps j p (All-tail P q ps all) e

saved-so : (mask : Bool) (value : ℕ) → Saves mask value → IsSaved mask value
saved-so true value s = tt
saved-so false value s = s

status-so : (status : ThreadStatus) → IsCode status → HasCause status → IsStatus status
status-so ThreadStatus.Live code cause = tt
status-so (ThreadStatus.Ended n) code cause = code
status-so (ThreadStatus.Fault n) code cause = cause

request-so : (size : ℕ) (o : Option Request) → IsSoundIf size o → IsRequest size o
request-so size None is = tt
request-so size (Some request) is = record { aligned = is.aligned; few = is.few; inside = is.inside }

last-so : (present : ℕ) (o : Option ℕ) → IsPresent present o → IsLast present o
last-so present None is = tt
last-so present (Some thread) is = is

-- ---- after a list of events

module _ (s : Setup) (es : List Event) (i : ℕ) (image : SphereSetup) (asked : RecordSetup) (limits : IsWithinLimits s) (will : WillRecord s i image asked) (n : ℕ) (within : n ≤ position (sphere_in (serial s (after s es).points) i).progress) where
  abbrev ps : List Point
  ps = (after s es).points

  abbrev p : Sphere
  p = sphere_in (serial_until s ps i n) i

  abbrev t : Tail
  t = tail_at s ps i asked n

  can-then : CanDoAll (serial_start s) (points_until i n ps)
  can-then = (can-split (serial_start s) (points_until i n ps) (points_since i n ps) (subst (CanDoAll (serial_start s)) (sym (until-since i n ps)) (commits_are s es will.setup).possible)).0

  rests : KeepsResting (length image.memory) (supplied i (serial_start s) (points_until i n ps)) p
  rests = sphere-rests s i image asked will.there will.role (points_until i n ps) can-then

  keeps : Keeps (how_kept s asked) (supplied i (serial_start s) (points_until i n ps)) p
  keeps = sphere-holds (how_kept s asked) i (supplied i (serial_start s) (points_until i n ps)) (serial_until s ps i n) (kept-so s i image asked will.there will.role (points_until i n ps) can-then)

  -- the sphere has come of the first events, and was sound after them
  record WasSound : Type 0 where
    threads : (k : ℕ) (u : Parts) → slice_get p.threads k ≡ Some u → IsSoundThread (position p.progress) u
    some : 1 ≤ length p.threads
    request : IsSoundIf (length image.memory) p.progress.request

  was-sound : WasSound
  unfolding shown
  was-sound =
      let among : n ≤ commits_among i ps = (let d = done-among s i image asked will.there will.role ps (commits_are s es will.setup).possible in omega (arith, within, d)) in
      let c = commits_at s i n es among in
      let v : World = after s c.first in
      let q : Sphere = sphere_at v i in
      let st : Stand s c.first v i asked (shown v.slots i q) (shown v.slots i q) = stands s c.first v i image asked will.setup will.there will.role refl in
      let grow = points_grow v c.rest in
      let all : ps ≡ v.points ++ grow.0 = ap (λ (fs : List Event). (after s fs).points) c.all ∙ ap (λ (w : World). w.points) (after_both (world_of s) c.first c.rest) ∙ grow.1 in
      let until : points_until i n ps ≡ v.points = ap (points_until i n) all ∙ until-more i n v.points grow.0 (let k = c.count in omega arith) ∙ c.until in
      let state : serial_until s ps i n ≡ serial s v.points = ap (do_points (serial_start s)) until in
      let sphere : shown v.slots i q ≡ p = sym (ap (λ (x : SerialState). sphere_in x i) state ∙ get_or_from_slice_get (serial s v.points).spheres i (shown v.slots i q) no_sphere st.is) in
      let inside : i < length v.spheres = (let a = slice_get_within s.spheres i image will.there in let b = (sizes_kept s c.first will.setup).spheres in omega (arith, a, b)) in
      let sound : IsSoundSphere s.numbers.s image (moment v) q = subst (λ (d : SphereSetup). IsSoundSphere s.numbers.s d (moment v) q) (get_or_from_slice_get s.spheres i image no_image will.there) ((worlds_sound s c.first limits).spheres i inside) in
      record {
        threads = subst (λ (x : Sphere). (k : ℕ) (u : Parts) → slice_get x.threads k ≡ Some u → IsSoundThread (position x.progress) u) sphere sound.threads;
        some = subst (λ (x : Sphere). 1 ≤ length x.threads) sphere sound.some;
        request = subst (λ (x : Sphere). IsSoundIf (length image.memory) x.progress.request) sphere sound.request;
      }

  thread-at : HasWords t → (j : ℕ) (u : Parts) → slice_get p.threads j ≡ Some u → IsThreadAt n u
  thread-at has j u e =
      let r = rests.threads j u e in
      let sound = was-sound.threads j u e in
      let there = sphere-then s es i image asked will n within in
      record {
        thread = sound.thread;
        words = each-of (λ (q : Parts). All (λ word. word < 2 ^ 32) (words_of q)) p.threads j u has.words e;
        status = status-so u.status (each-of (λ (q : Parts). IsCode q.status) p.threads j u has.codes e) r.saves.cause;
        saved_pc = saved-so u.mask u.saved_pc r.saves.saved_pc;
        saved_a0 = saved-so u.mask u.saved_a0 r.saves.saved_a0;
        saved_a1 = saved-so u.mask u.saved_a1 r.saves.saved_a1;
        reservation = r.reservation;
        commits = (let l = sound.few in omega (arith, l, there));
      }

  pub is-tail : asked.version ≡ 2 → position (sphere_in (serial s ps) i).progress ≤ 2 ^ 24 → HasWords t → IsLog t.log → IsTail t
  is-tail second most has log =
      let limit = limits.images i image will.there in
      let memory = rests.memory in
      let rest = tails_of_points s es i image asked n limits will.there will.role within in
      let count : t.log.count ≡ (log_of_points s es i asked).count - n = ap (λ (l : LogParts). l.count) (sym rest) in
      let whole = (stands-so s es i image asked will).count in
      record {
        some = was-sound.some;
        threads = all-of (IsThreadAt n) p.threads (thread-at has);
        size = subst IsSize (sym memory) (record { pages = limit.pages; least = limit.least; most = limit.most });
        bytes = has.bytes;
        request = subst (λ (m : ℕ). IsRequest m p.progress.request) (sym memory) (request-so (length image.memory) p.progress.request was-sound.request);
        last = last-so (length p.threads) p.progress.last rests.last;
        log = log;
        version = second;
        most = keeps.few;
        commits = omega (arith, count, whole, within, most);
      }

tails-run : (s : Setup) (es fs : List Event) (i : ℕ) (image : SphereSetup) (asked : RecordSetup) (x : EpochSetup) → IsWithinLimits s → WillKeep s i image asked x
    → let ps = (world_after (after s es) fs).points in
    let q = sphere_in (serial s ps) i in
    let t = tail_at s ps i asked (base_in q x) in
    position q.progress ≤ 2 ^ 24 → HasWords t → IsLog t.log → IsTail t
tails-run s es fs i image asked x limits will =
    let hs = es ++ fs in
    let same : (after s hs).points ≡ (world_after (after s es) fs).points = ap (λ (w : World). w.points) (after_both (world_of s) es fs) in
    let records : WillRecord s i image asked = record { setup = setup-within s limits; there = will.there; role = will.role } in
    let are : AreEpochs asked.version x = epochs-so s.numbers.s image.role asked x will.role will.epochs (limits.images i image will.there).role in
    let q = sphere_in (serial s (after s hs).points) i in
    subst (λ (ps : List Point). let r = sphere_in (serial s ps) i in let t = tail_at s ps i asked (base_in r x) in position r.progress ≤ 2 ^ 24 → HasWords t → IsLog t.log → IsTail t) same
    (is-tail s hs i image asked limits records (base_in q x) (base-within (position q.progress) x are.some) are.second)

-- what a run tells of a sphere that is recorded in epochs is a tail
pub tails_are_tails : TailsAreTails
tails_are_tails s es i image asked x limits will most has log = tails-run s es (finishing_of s es) i image asked x limits will most has log
