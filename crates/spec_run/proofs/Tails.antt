-- The tail of a run is the last part of its log: where the log's play is after the commits before the base, the recording was,
-- except for interrupts that came before the next commits; and these are in the tail's own log.
use Rattle.std.proofs.Common.{◌≡◌, ℕ, suc, ◌+◌, ◌-◌, ◌*◌, ◌<◌, ◌≤◌, inl, inr, Bool, true, false, List, [], ◌∷◌, ◌++◌, length, drop, Option, Some, None, refl, sym, ap, ◌∙◌, subst, arith}
use Rattle.std.specs.Prelude.{◌/◌, slice_get, if◌then◌else◌}
use Rattle.std.proofs.Math.Nat.{div-mul-le_self, mul-le-mul_right}
use Rattle.std.proofs.lemmas.Bool.{true≢false, cases_Bool}
use Rattle.dl_entry.specs.declared.Actor.{Actor}
use Rattle.dl_entry.specs.declared.End.{End}
use Rattle.dl_entry.specs.declared.Point.{Point}
use Rattle.spec_isa.specs.declared.thread.Parts.{Parts}
use Rattle.spec_log.specs.declared.Interrupt.{Interrupt}
use Rattle.spec_log.specs.declared.LogParts.{LogParts}
use Rattle.spec_log.specs.declared.ModeName.{ModeName}
use Rattle.spec_log.specs.declared.Sizes.{Sizes}
use Rattle.spec_kernel.specs.Interrupts.{takes_interrupt}
use Rattle.spec_play.specs.declared.WalkEnd.{WalkEnd}
use Rattle.spec_play.specs.Epochs.{log_from}
use Rattle.spec_play.specs.Plays.{Played, opened, plays}
use Rattle.spec_play.specs.Progress.{Progress, position}
use Rattle.spec_play.specs.States.{State}
use Rattle.spec_play.specs.Verdicts.{interrupt_at}
use Rattle.spec_play.specs.Walks.{Walked}
use Rattle.spec_protocol.specs.declared.event.Event.{Event}
use Rattle.spec_protocol.specs.machine.Kept.{epoch_of, serial_until, tail_log}
use Rattle.spec_sphere.specs.sphere.Logged.{logged}
use Rattle.spec_protocol.specs.machine.Logged.{sphere_in, supplied}
use Rattle.spec_sphere.specs.sphere.Setups.{EpochSetup, RecordSetup, RoleSetup, IsRecorded, SphereSetup}
use Rattle.spec_protocol.specs.machine.Machine.{Setup, world_of, world_after}
use Rattle.spec_sphere.specs.sphere.Epochs.{base_of}
use Rattle.spec_protocol.specs.machine.World.{World}
use Rattle.spec_protocol.specs.machine.Serial.{serial_start, serial}
use Rattle.spec_sphere.specs.sphere.Spheres.{Sphere}
use Rattle.spec_sphere.specs.promises.Kept.{HasComeTo, after_raise}
use Rattle.spec_protocol.specs.promises.Kept.{WillKeep}
use Rattle.spec_protocol.specs.promises.LogsOfPoints.{log_of_points}
use Rattle.spec_sphere.specs.promises.PlayingBack.{PlaysBack}
use Rattle.spec_protocol.specs.promises.Promises.{WillRecord, after}
use Rattle.spec_sphere.specs.promises.Sound.{AreEpochs, AreEpochsIf, IsRecordable, IsRole}
use Rattle.spec_protocol.specs.promises.Sound.{IsWithinLimits}
use Rattle.spec_sphere.specs.promises.Standing.{OrderStands, SizesStand, Stands}
use Rattle.spec_protocol.proofs.Kept.Events.{epoch-commits}
use Rattle.spec_protocol.proofs.Kept.Plays.{epochs_of_plays}
use Rattle.spec_protocol.proofs.Kept.Tails.{done-among, tails_of_points}
use Rattle.spec_protocol.proofs.PlayingBack.All.{logs_play_back}
use Rattle.spec_protocol.proofs.PlayingBack.WholeLogs.{IsShown, shown-so, stands-so}
use Rattle.spec_sphere.proofs.Points.OneMore.{points_so}
use Rattle.spec_protocol.proofs.Points.Rising.{recorded-rising}
use Rattle.spec_protocol.proofs.Points.Serial.{commits_are}
use Rattle.spec_sphere.proofs.Replays.Uses.{Later, Rising}
use Rattle.spec_protocol.proofs.Sound.Schedules.{setup-within}
use Rattle.spec_finishing.specs.Function.{finished, finishing_of}
use Rattle.spec_tail.specs.Cutting.{after_interrupt, after_interrupts, IsTailOf}
use Rattle.spec_tail.specs.Playing.{walked}
use Rattle.spec_tail.specs.Tails.{Tail, state_of}
use Rattle.spec_tail.proofs.Cutting.{after-each}
use Rattle.spec_tail.proofs.PlayingOn.{plays-whole}
use Rattle.spec_tail.proofs.Along.Rests.{IsArranged}
use Rattle.spec_tail.proofs.Along.Tallies.{Each, Before, Rising as TailRising}
use Rattle.spec_run.specs.Runs.{executed}
use Rattle.spec_run.specs.Tails.{base_in, tail_at}
use Rattle.spec_run.specs.Promise.{IsTailPlayed, TailsArePlayed}
use Rattle.spec_finishing.proofs.Ending.Played.{after_both}

-- ---- the whole log

each-later : (x : Interrupt) (ys : List Interrupt) → Later x ys → Each (Before x) ys
each-later x [] later = tt
each-later x (y ∷ ys) later = (later.0, each-later x ys later.1)

rising-so : (xs : List Interrupt) → Rising xs → TailRising xs
rising-so [] rising = tt
rising-so (x ∷ xs) rising = (each-later x xs rising.0, rising-so xs rising.1)

each-so : (m : ModeName) (zs : List ℕ) (order : List Actor) (n : ℕ) (ts : List Parts) → SizesStand m (Sizes.Each zs) n ts → OrderStands m order n ts → (m ≡ ModeName.OrderSize) × (length zs ≡ length order)
each-so ModeName.OrderSize zs order n ts sizes stands = (refl, sizes ∙ sym stands.0)
each-so ModeName.OrderOnly zs order n ts sizes stands = absurd sizes
each-so ModeName.Picolog zs order n ts sizes stands = absurd sizes

arranged-by : (p : Sphere) (log : LogParts) → Stands p log → TailRising log.interrupts → IsArranged log
arranged-by p log stands rising =
    record {
      each = λ zs each. each-so log.mode zs log.order (position p.progress) p.threads (subst (λ (z : Sizes). SizesStand log.mode z (position p.progress) p.threads) each stands.sizes) stands.order;
      rising = rising;
    }

-- ---- threads at the base

same-raise : (o : Option ℕ) (t : Parts) → after_raise o t ≡ after_interrupt o t
same-raise None t = refl
same-raise (Some value) t = refl

-- ---- after a list of events

-- the first n commits are done there
pub sphere-then : (s : Setup) (es : List Event) (i : ℕ) (image : SphereSetup) (asked : RecordSetup) → WillRecord s i image asked → (n : ℕ) → n ≤ position (sphere_in (serial s (after s es).points) i).progress
    → position (sphere_in (serial_until s (after s es).points i n) i).progress ≡ n
sphere-then s es i image asked will n within =
    let ps = (after s es).points in
    let can = (commits_are s es will.setup).possible in
    let all = done-among s i image asked will.there will.role ps can in
    epoch-commits s i image asked will.there will.role ps can n (omega (arith, within, all))

module _ (s : Setup) (es : List Event) (i : ℕ) (image : SphereSetup) (asked : RecordSetup) (limits : IsWithinLimits s) (will : WillRecord s i image asked) (n : ℕ) (within : n ≤ position (sphere_in (serial s (after s es).points) i).progress) where
  abbrev ps : List Point
  ps = (after s es).points

  abbrev L : LogParts
  L = log_of_points s es i asked

  abbrev p : Sphere
  p = sphere_in (serial_until s ps i n) i

  abbrev t : Tail
  t = tail_at s ps i asked n

  abbrev y : Played
  y = plays L (opened L image.memory image.entry) n

  come : HasComeTo y (epoch_of s ps i n) t.log
  come = epochs_of_plays s es i image asked n limits will.there will.role within

  there : position p.progress ≡ n
  there = sphere-then s es i image asked will n within

  pub part-of_log : IsTailOf L image.memory image.entry t
  part-of_log =
      let c = come in
      let inputs = c.inputs in
      let state : (epoch_of s ps i n).state ≡ state_of t = ap (λ (m : ℕ). record (state_of t) { commits = m }) there in
      record {
        base = c.commits ∙ there;
        memory = c.memory;
        threads = after-each t.log.interrupts 0 p.threads y.threads c.many
            (λ k u is. let none : 0 + k ≡ k = omega arith in
            c.threads k u is ∙ ap Some (same-raise (interrupt_at t.log.interrupts k u.commits) u)
            ∙ ap (λ (j : ℕ). Some (after_interrupt (interrupt_at t.log.interrupts j u.commits) u)) (sym none));
        request = c.request;
        last = c.last;
        rest = sym (tails_of_points s es i image asked n limits will.there will.role within) ∙ (λ j. log_from n (sym inputs j) (state j) L);
      }

  pub tail-played : IsTailPlayed image L t (sphere_in (serial s ps) i)
  tail-played =
      let q : Sphere = sphere_in (serial s ps) i in
      let a : IsShown s es i asked = shown-so s es i image asked will in
      let stands = stands-so s es i image asked will in
      let rising = rising-so L.interrupts (recorded-rising s i image asked will.there will.role ps (commits_are s es will.setup).possible) in
      let back : PlaysBack L image q = logs_play_back s es i image asked will q _ a.there a.role in
      let whole = plays-whole L image.memory image.entry t (arranged-by q L stands rising) back.fit part-of_log in
      let progress = back.progress in
      let memory = back.memory in
      let threads = back.threads in
      let count = stands.count in
      record {
        part = part-of_log;
        walked = whole
            ∙ (λ j. record {
              commits = drop n (progress j).commits;
              threads = threads j;
              memory = memory j;
              request = (progress j).request;
              end = WalkEnd.Ended (End.Complete (count j));
            });
      }

-- ---- the base

-- the earliest epoch that is kept begins after no more commits than there are
pub base-within : (n : ℕ) (x : EpochSetup) → 1 ≤ x.keep → base_of n x.size x.keep ≤ n
base-within n x some =
    let whole : n / x.size * x.size ≤ n = div-mul-le_self n x.size in
    let few : n / x.size + 1 - x.keep ≤ n / x.size = omega (arith, some) in
    let less = mul-le-mul_right x.size few in
    omega (arith, whole, less)

-- the epochs that are asked for are within the limits
pub epochs-so : (s : ℕ) (role : RoleSetup) (asked : RecordSetup) (x : EpochSetup) → role ≡ IsRecorded asked → asked.epochs ≡ Some x → IsRole s role → AreEpochs asked.version x
epochs-so s role asked x recorded epochs is =
    let all : IsRecordable s asked = subst (IsRole s) recorded is in
    subst (AreEpochsIf asked.version) epochs all.2

-- an epoch has a commit at least, and one is kept at least
pub has-size : (s : ℕ) (role : RoleSetup) (asked : RecordSetup) (x : EpochSetup) → role ≡ IsRecorded asked → asked.epochs ≡ Some x → IsRole s role → 1 ≤ x.size
has-size s role asked x recorded epochs is = (epochs-so s role asked x recorded epochs is).least

-- a recording in epochs that is within the limits keeps at least one epoch
pub keeps-some : (s : ℕ) (role : RoleSetup) (asked : RecordSetup) (x : EpochSetup) → role ≡ IsRecorded asked → asked.epochs ≡ Some x → IsRole s role → 1 ≤ x.keep
keeps-some s role asked x recorded epochs is = (epochs-so s role asked x recorded epochs is).some

tails_of_run : (s : Setup) (es fs : List Event) (i : ℕ) (image : SphereSetup) (asked : RecordSetup) (x : EpochSetup) → IsWithinLimits s → WillKeep s i image asked x
    → let ps = (world_after (after s es) fs).points in
    let p = sphere_in (serial s ps) i in
    IsTailPlayed image (logged asked.version asked.mode s.numbers.s (supplied i (serial_start s) ps)) (tail_at s ps i asked (base_in p x)) p
tails_of_run s es fs i image asked x limits will =
    let hs = es ++ fs in
    let same : (after s hs).points ≡ (world_after (after s es) fs).points = ap (λ (w : World). w.points) (after_both (world_of s) es fs) in
    let records : WillRecord s i image asked = record { setup = setup-within s limits; there = will.there; role = will.role } in
    let some = keeps-some s.numbers.s image.role asked x will.role will.epochs (limits.images i image will.there).role in
    let q = sphere_in (serial s (after s hs).points) i in
    subst (λ (ps : List Point). IsTailPlayed image (logged asked.version asked.mode s.numbers.s (supplied i (serial_start s) ps)) (tail_at s ps i asked (base_in (sphere_in (serial s ps) i) x)) (sphere_in (serial s ps) i)) same
    (tail-played s hs i image asked limits records (base_in q x) (base-within (position q.progress) x some))

-- the tail of each run is the last part of its log, and its play leaves what the run left
pub tails_are_played : TailsArePlayed
tails_are_played s es i image asked x limits will = tails_of_run s es (finishing_of s es) i image asked x limits will
