-- Once a run is over, the machine holds what the texts of the run tell.
use Rattle.std.proofs.Common.{◌≡◌, ℕ, zero, suc, ◌<◌, true, false, List, [], ◌∷◌, ◌++◌, length, Option, Some, None, refl, sym, ap, ◌∙◌, subst, arith, get_or}
use Rattle.std.specs.Prelude.{slice_get}
use Rattle.std.proofs.lemmas.Bool.{true≢false}
use Rattle.std.proofs.lemmas.Option.{none-some}
use Rattle.dl_account.specs.Account.{account_of}
use Rattle.dl_entry.specs.declared.End.{End}
use Rattle.spec_log.specs.declared.LogParts.{LogParts}
use Rattle.spec_play.specs.Progress.{position}
use Rattle.spec_play.specs.Turns.{TurnOrEnd, Turn, TurnOfDma, Ended}
use Rattle.spec_play.specs.Plays.{Played}
use Rattle.spec_protocol.specs.declared.event.Event.{Event}
use Rattle.spec_sphere.specs.sphere.Spheres.{Recording, Role, Plain, Record, Replay, Cursor, Sphere, no_sphere, is_over, replays}
use Rattle.spec_protocol.specs.machine.World.{World, sphere_at}
use Rattle.spec_sphere.specs.sphere.Setups.{all_of, last_played, ReplaySetup, new_epochs, EpochSetup, RecordSetup, RoleSetup, IsPlain, IsRecorded, IsReplayed, SphereSetup}
use Rattle.spec_protocol.specs.machine.Machine.{Setup, world_of}
use Rattle.spec_protocol.specs.machine.Serial.{serial_start, serial, CanDoAll}
use Rattle.spec_protocol.specs.machine.Logged.{sphere_in, supplied}
use Rattle.spec_sphere.specs.sphere.Logged.{logged}
use Rattle.spec_sphere.specs.promises.Logs.{IsLogFresh}
use Rattle.spec_protocol.specs.machine.Shown.{shown_of}
use Rattle.spec_protocol.specs.promises.Promises.{IsSetup, after, WillRecord}
use Rattle.spec_sphere.specs.promises.PlayingBack.{PlaysBack}
use Rattle.spec_replay.specs.Promises.{IsPlayed}
use Rattle.spec_replay.proofs.Intervals.{now_as}
use Rattle.spec_finishing.specs.Ending.{Ends, CanFinish, IsAtEnd}
use Rattle.spec_finishing.specs.Function.{finished, finishing_of, most_events}
use Rattle.spec_protocol.proofs.Alike.Whole.{plain-after}
use Rattle.spec_protocol.proofs.Points.Serial.{commits_are}
use Rattle.spec_protocol.proofs.Points.Logs.{logs_are, logs_are_fresh}
use Rattle.spec_protocol.proofs.PlayingBack.All.{logs_play_back}
use Rattle.spec_protocol.proofs.Invariants.Schedules.{sizes_kept}
use Rattle.spec_finishing.proofs.Ending.Function.{function_finishes}
use Rattle.spec_finishing.proofs.Ending.KindsKept.{is_replayed, AreOfKinds, kind-at}
use Rattle.spec_finishing.proofs.Ending.Knowing.{within, there_is, kinds_after}
use Rattle.spec_finishing.proofs.Next.All.{next-stands}
use Rattle.spec_finishing.proofs.Ending.Played.{replays_finished, last_next, after_both}
use Rattle.spec_finishing.proofs.Next.Turns.{shown-itself}
use Rattle.spec_run.specs.Runs.{points_of, executed, played, end_of, played_end}
use Rattle.spec_run.specs.Texts.{account_as, executed_account, log_of_points, played_account, recorded_account}
use Rattle.spec_run.specs.Promise.{end_as, account_held, HasRecorded, HasRole, IsDescribed, RecordingsAreReproduced}
use Rattle.spec_replay.proofs.Strata.Stopping.{same_cursor}

-- ---- lists of events

get_is : (ps : List Sphere) (i : ℕ) (p : Sphere) → slice_get ps i ≡ Some p → get_or ps i no_sphere ≡ p
get_is [] i p e = absurd (none-some p e)
get_is (q ∷ ps) zero p e = cc
get_is (q ∷ ps) (suc i) p e = get_is ps i p e

-- ---- what is known of the last world

-- apart from its list of events: its spheres are the executed ones, of the kinds of the setup, and its devices are the executed ones
pub record IsKnown (s : Setup) (w : World) : Type 0 where
  pub executes : (i : ℕ) (p : Sphere)
      → slice_get (shown_of w).spheres i ≡ Some p
      → replays p.role ≡ false
      → slice_get (serial s w.points).spheres i ≡ Some p
  pub devices : w.devices ≡ (serial s w.points).devices
  pub possible : CanDoAll (serial_start s) w.points
  pub kinds : AreOfKinds s.spheres (shown_of w).spheres
  pub sizes : length w.spheres ≡ length s.spheres
  pub plain : (i : ℕ) (image : SphereSetup) (p : Sphere)
      → slice_get s.spheres i ≡ Some image
      → image.role ≡ IsPlain
      → slice_get (shown_of w).spheres i ≡ Some p
      → p.role ≡ Plain
  pub logs : (i : ℕ) (image : SphereSetup) (asked : RecordSetup)
      → WillRecord s i image asked
      → (sphere_at w i).role ≡ Record (record { log = logged asked.version asked.mode s.numbers.s (supplied i (serial_start s) w.points); epochs = new_epochs asked.epochs })
  pub fresh : (i : ℕ) (image : SphereSetup) (asked : RecordSetup)
      → WillRecord s i image asked
      → (recording : Recording)
      → (sphere_at w i).role ≡ Record recording
      → IsLogFresh recording.log (sphere_at w i)
  pub plays_back : (i : ℕ) (image : SphereSetup) (asked : RecordSetup)
      → WillRecord s i image asked
      → (p : Sphere) (recording : Recording)
      → slice_get (shown_of w).spheres i ≡ Some p
      → p.role ≡ Record recording
      → PlaysBack recording.log image p

known-after : (s : Setup) (es : List Event) → IsSetup s → IsKnown s (after s es)
known-after s es is =
    let c = commits_are s es is in
    record {
      executes = c.spheres;
      devices = c.devices;
      possible = c.possible;
      kinds = kinds_after s es is;
      sizes = (sizes_kept s es is).spheres;
      plain = λ i image p there role shown. plain-after s es i image p is there role shown;
      logs = logs_are s es;
      fresh = logs_are_fresh s es;
      plays_back = logs_play_back s es;
    }

-- a finished run is a run after more events
pub known : (s : Setup) (es : List Event) → IsSetup s → IsKnown s (finished s es)
known s es is = subst (IsKnown s) (after_both (world_of s) es (finishing_of s es)) (known-after s (es ++ finishing_of s es) is)

-- each point can be done as it says
pub points-possible : (s : Setup) (es : List Event) → IsSetup s → CanDoAll (serial_start s) (points_of s es)
points-possible s es is = (known s es is).possible

ends : (s : Setup) (es : List Event) → CanFinish s → Ends s es (finishing_of s es)
ends s es can = function_finishes s es (most_events s es) can (omega arith)

-- no word is in flight, so memory is as it is shown
shown : (s : Setup) (es : List Event) → CanFinish s → (shown_of (finished s es)).spheres ≡ (finished s es).spheres
shown s es can =
    let w : World = finished s es in
    shown-itself w (next-stands w (last_next (after s es) (finishing_of s es) (ends s es can).finishes))

-- the sphere that is there
pub record IsThere (s : Setup) (es : List Event) (i : ℕ) (image : SphereSetup) (p : Sphere) : Type 0 where
  pub there : slice_get (finished s es).spheres i ≡ Some p
  pub shows : slice_get (shown_of (finished s es)).spheres i ≡ Some p
  pub at : sphere_at (finished s es) i ≡ p
  pub kind : replays p.role ≡ is_replayed image.role

-- of sphere i
pub sphere-there : (s : Setup) (es : List Event) (i : ℕ) (image : SphereSetup) → CanFinish s → slice_get s.spheres i ≡ Some image → (p : Sphere) × IsThere s es i image p
sphere-there s es i image can is =
    let w : World = finished s es in
    let k = known s es can.setup in
    let inside : i < length w.spheres = (let l = within s.spheres i image is in let e = k.sizes in omega (arith, l, e)) in
    let p = there_is w.spheres i inside in
    let shows = ap (λ (ps : List Sphere). slice_get ps i) (shown s es can) ∙ p.1 in (
      p.0,
      record {
        there = p.1;
        shows = shows;
        at = get_is w.spheres i p.0 p.1;
        kind = kind-at s.spheres (shown_of w).spheres i image p.0 is shows k.kinds;
      },
    )

-- a plain or recorded one is executed
pub executed-is : (s : Setup) (es : List Event) (i : ℕ) (image : SphereSetup) (p : Sphere) → CanFinish s → IsThere s es i image p → replays p.role ≡ false → sphere_in (executed s es) i ≡ p
executed-is s es i image p can t live = get_is (executed s es).spheres i p ((known s es can.setup).executes i p t.shows live)

-- ---- accounts

live_end : (role : Role) (n : ℕ) → replays role ≡ false → end_as role n ≡ End.Complete n
live_end Plain n e = refl
live_end (Record recording) n e = refl
live_end (Replay b) n e = absurd (true≢false e)

held_executed : (p : Sphere) → replays p.role ≡ false → account_held p ≡ executed_account p
held_executed p live =
    ap (account_of p.progress.first p.progress.commits p.threads p.progress.request p.memory) (live_end p.role (position p.progress) live)

over_how : (now : TurnOrEnd) → is_over now ≡ true → (how : End) × (now ≡ Ended how)
over_how (Turn k) e = absurd (true≢false (sym e))
over_how TurnOfDma e = absurd (true≢false (sym e))
over_how (Ended how) e = (how, refl)

-- the account of what a sphere is, if it ended so
abbrev account_at : Sphere → End → List ℕ
account_at p how = account_of p.progress.first p.progress.commits p.threads p.progress.request p.memory how

-- with the play's state and end it has the play's account
whole_account : (asked : ReplaySetup) (y : Played) (p : Sphere) (b : Cursor) → IsPlayed asked y p b → p.memory ≡ y.memory → p.threads ≡ y.threads → account_at p (end_of b.now) ≡ played_account y (end_of (now_as asked y))
whole_account asked y p b is memory threads =
    let progress = is.progress in
    let now = is.now in
    (λ j. account_of (progress j).first (progress j).commits (threads j) (progress j).request (memory j) (end_of (now j)))

-- a play that didn't diverge leaves its state; of one that did, no state is described
held_played : (asked : ReplaySetup) (y : Played) (p : Sphere) (b : Cursor) (how : End) → IsPlayed asked y p b → b.now ≡ Ended how → account_at p (end_of b.now) ≡ played_account y (end_of (now_as asked y))
held_played asked y p b (End.Complete n) is over = whole_account asked y p b is (is.memory (End.Complete n) over refl) (is.threads (End.Complete n) over refl)
held_played asked y p b (End.At n) is over = whole_account asked y p b is (is.memory (End.At n) over refl) (is.threads (End.At n) over refl)
held_played asked y p b (End.Diverged n why) is over =
    let progress = is.progress in
    let end_is : end_of b.now ≡ End.Diverged n why = ap end_of over in
    let tells : End.Diverged n why ≡ end_of (now_as asked y) = ap end_of (sym over ∙ is.now) in
    ap (account_at p) end_is
    ∙ (λ j. account_of (progress j).first (progress j).commits p.threads p.progress.request p.memory (End.Diverged n why))
    ∙ ap (played_account y) tells

-- ---- by the role

live_described : (s : Setup) (es : List Event) (i : ℕ) (image : SphereSetup) (p : Sphere) → CanFinish s → IsThere s es i image p → replays p.role ≡ false → account_held (sphere_at (finished s es) i) ≡ executed_account (sphere_in (executed s es) i)
live_described s es i image p can t live =
    ap account_held t.at ∙ held_executed p live ∙ ap executed_account (sym (executed-is s es i image p can t live))

-- what is known of a replay at its end
record IsReplayedTo (s : Setup) (es : List Event) (i : ℕ) (image : SphereSetup) (asked : ReplaySetup) (p : Sphere) : Type 0 where
  cursor : Cursor
  role : p.role ≡ Replay cursor
  played : IsPlayed asked (last_played image asked) p cursor
  over : (how : End) × (cursor.now ≡ Ended how)

same_sphere : (p q : Sphere) → Some p ≡ Some q → p ≡ q
same_sphere p q e = cc

abbrev HasPlayedIn : (image : SphereSetup) (asked : ReplaySetup) (i : ℕ) → World → Type 0
HasPlayedIn image asked i w =
    (p : Sphere) × ((b : Cursor) × ((slice_get w.spheres i ≡ Some p) × ((p.role ≡ Replay b) × IsPlayed asked (last_played image asked) p b)))

has_played : (s : Setup) (es : List Event) (i : ℕ) (image : SphereSetup) (asked : ReplaySetup) → CanFinish s → slice_get s.spheres i ≡ Some image → image.role ≡ IsReplayed asked → HasPlayedIn image asked i (finished s es)
has_played s es i image asked can is role =
    let h = replays_finished image asked s es (finishing_of s es) i can (ends s es can).finishes is role in
    subst (HasPlayedIn image asked i) (after_both (world_of s) es (finishing_of s es)) (h.sphere, (h.cursor, (h.there, (h.role, h.played))))

replayed-to : (s : Setup) (es : List Event) (i : ℕ) (image : SphereSetup) (asked : ReplaySetup) (p : Sphere) → CanFinish s → slice_get s.spheres i ≡ Some image → IsThere s es i image p → image.role ≡ IsReplayed asked → IsReplayedTo s es i image asked p
replayed-to s es i image asked p can is t role =
    let h = has_played s es i image asked can is role in
    let b : Cursor = h.1.0 in
    let same : h.0 ≡ p = same_sphere h.0 p (sym h.1.1.0 ∙ t.there) in
    let end : IsAtEnd h.0.role = (ends s es can).finished.replays i h.0 h.1.1.0 in
    let over : is_over b.now ≡ true = subst IsAtEnd h.1.1.1.0 end in
    record {
      cursor = b;
      role = ap (λ (q : Sphere). q.role) (sym same) ∙ h.1.1.1.0;
      played = subst (λ (q : Sphere). IsPlayed asked (last_played image asked) q b) same h.1.1.1.1;
      over = over_how b.now over;
    }

replayed_described : (s : Setup) (es : List Event) (i : ℕ) (image : SphereSetup) (asked : ReplaySetup) (p : Sphere) → IsThere s es i image p → IsReplayedTo s es i image asked p → account_held (sphere_at (finished s es) i) ≡ played_account (played asked image) (played_end asked image)
replayed_described s es i image asked p t r =
    ap account_held t.at
    ∙ ap (λ (role : Role). account_at p (end_as role (position p.progress))) r.role
    ∙ held_played asked (played asked image) p r.cursor r.over.0 r.played r.over.1

-- ---- a sphere

will_record : (s : Setup) (i : ℕ) (image : SphereSetup) (asked : RecordSetup) → CanFinish s → slice_get s.spheres i ≡ Some image → image.role ≡ IsRecorded asked → WillRecord s i image asked
will_record s i image asked can is role = record { setup = can.setup; there = is; role = role }

-- the epochs in which a sphere is recorded
abbrev pub epochs_asked : RoleSetup → Option EpochSetup
epochs_asked IsPlain = None
epochs_asked (IsRecorded asked) = asked.epochs
epochs_asked (IsReplayed asked) = None

has_role : (s : Setup) (es : List Event) (i : ℕ) (image : SphereSetup) (p : Sphere) (role : RoleSetup) → CanFinish s → slice_get s.spheres i ≡ Some image → IsThere s es i image p → image.role ≡ role → epochs_asked role ≡ None → HasRole s es i role (sphere_at (finished s es) i)
has_role s es i image p IsPlain can is t role none =
    ap (λ (q : Sphere). q.role) t.at ∙ (known s es can.setup).plain i image p is role t.shows
has_role s es i image p (IsRecorded asked) can is t role none =
    let kept = (known s es can.setup).logs i image asked (will_record s i image asked can is role) in
    let log = log_of_points s es i asked in
    subst (λ (o : Option EpochSetup). HasRecorded s es i asked o (sphere_at (finished s es) i)) (sym none)
    (kept ∙ ap (λ (o : Option EpochSetup). Record (record { log = log; epochs = new_epochs o })) none)
has_role s es i image p (IsReplayed asked) can is t role none =
    let r = replayed-to s es i image asked p can is t role in
    (r.cursor, ap (λ (q : Sphere). q.role) t.at ∙ r.role)

account_described : (s : Setup) (es : List Event) (i : ℕ) (image : SphereSetup) (p : Sphere) (role : RoleSetup) → CanFinish s → slice_get s.spheres i ≡ Some image → IsThere s es i image p → image.role ≡ role → epochs_asked role ≡ None → account_held (sphere_at (finished s es) i) ≡ account_as image (sphere_in (executed s es) i) role
account_described s es i image p IsPlain can is t role none = live_described s es i image p can t (t.kind ∙ ap is_replayed role)
account_described s es i image p (IsRecorded asked) can is t role none =
    live_described s es i image p can t (t.kind ∙ ap is_replayed role) ∙ ap (recorded_account (sphere_in (executed s es) i)) (sym none)
account_described s es i image p (IsReplayed asked) can is t role none = replayed_described s es i image asked p t (replayed-to s es i image asked p can is t role)

played_to : (s : Setup) (es : List Event) (i : ℕ) (image : SphereSetup) (p : Sphere) (asked : ReplaySetup) (b : Cursor) → CanFinish s → slice_get s.spheres i ≡ Some image → IsThere s es i image p → image.role ≡ IsReplayed asked → (sphere_at (finished s es) i).role ≡ Replay b → b.now ≡ now_as asked (played asked image)
played_to s es i image p asked b can is t role replay =
    let r = replayed-to s es i image asked p can is t role in
    let same : b ≡ r.cursor = same_cursor b r.cursor (sym replay ∙ ap (λ (q : Sphere). q.role) t.at ∙ r.role) in
    ap (λ (c : Cursor). c.now) same ∙ r.played.now

-- each sphere of a finished machine that isn't recorded in epochs has the role, the account and the commits that its texts tell
pub whole-described : (s : Setup) (es : List Event) (i : ℕ) (image : SphereSetup) → CanFinish s → slice_get s.spheres i ≡ Some image → epochs_asked image.role ≡ None → IsDescribed s es i image (sphere_at (finished s es) i)
whole-described s es i image can is none =
    let p = sphere-there s es i image can is in
    let t = p.1 in
    record {
      role = has_role s es i image p.0 image.role can is t refl none;
      account = account_described s es i image p.0 image.role can is t refl none;
      commits = λ live.
          let l : replays p.0.role ≡ false = ap (λ (q : Sphere). replays q.role) (sym t.at) ∙ live in
          ap (λ (q : Sphere). position q.progress) (t.at ∙ sym (executed-is s es i image p.0 can t l));
      over = subst IsAtEnd (ap (λ (q : Sphere). q.role) (sym t.at)) ((ends s es can).finished.replays i p.0 t.there);
      played = λ asked b role replay. played_to s es i image p.0 asked b can is t role replay;
      done = λ asked role. ap (λ (q : Sphere). q.progress) t.at ∙ (replayed-to s es i image asked p.0 can is t role).played.progress;
    }

-- ---- what follows

-- a play that is complete has the account of what it leaves
play_account : (y : Played) (p : Sphere) (n : ℕ) → y.now ≡ Ended (End.Complete n) → n ≡ position p.progress → y.memory ≡ p.memory → y.threads ≡ p.threads → y.progress ≡ p.progress → played_account y (end_of y.now) ≡ executed_account p
play_account y p n now few memory threads progress =
    let end_is : end_of y.now ≡ End.Complete (position p.progress) = ap end_of now ∙ ap End.Complete few in
    (λ j. account_of (progress j).first (progress j).commits (threads j) (progress j).request (memory j) (end_is j))

-- the log of a recorded sphere fits its image, and the account of its play is that of the recording
pub recordings_reproduced : RecordingsAreReproduced
recordings_reproduced s es i image asked can is role =
    let t = sphere-there s es i image can is in
    let p : Sphere = t.0 in
    let log : LogParts = log_of_points s es i asked in
    let k = known s es can.setup in
    let will = will_record s i image asked can is role in
    let kept : Recording = record { log = log; epochs = new_epochs asked.epochs } in
    let recorded : p.role ≡ Record kept = ap (λ (q : Sphere). q.role) (sym t.1.at) ∙ k.logs i image asked will in
    let back = k.plays_back i image asked will p kept t.1.shows recorded in
    let live : replays p.role ≡ false = ap replays recorded in
    let x = executed-is s es i image p can t.1 live in
    let fresh = k.fresh i image asked will kept (k.logs i image asked will) in
    let count : log.count ≡ position p.progress = fresh.count ∙ ap (λ (q : Sphere). position q.progress) t.1.at in
    record {
      fits = back.fit;
      account = play_account (played (all_of log) image) p log.count back.fit count back.memory back.threads back.progress ∙ ap executed_account (sym x);
    }
