-- What is promised of a machine once its run is over: what it holds is what the texts of the run tell.
use Rattle.std.specs.Prelude.{◌≡◌, ℕ, ◌<◌, ◌≤◌, ◌^◌, false, List, ◌∷◌, ◌++◌, length, drop, All, Option, Some, None, slice_get}
use Rattle.dl_account.specs.Account.{account_of}
use Rattle.dl_entry.specs.declared.End.{End}
use Rattle.spec_isa.specs.declared.thread.ThreadStatus.{ThreadStatus}
use Rattle.spec_log.specs.declared.LogParts.{LogParts}
use Rattle.spec_log.specs.Log.{IsLog}
use Rattle.spec_play.specs.Epochs.{Epoch}
use Rattle.spec_play.specs.Progress.{position}
use Rattle.spec_play.specs.declared.interval.Interval.{Interval}
use Rattle.spec_play.specs.declared.WalkEnd.{WalkEnd}
use Rattle.spec_play.specs.Plays.{FitsImage}
use Rattle.spec_play.specs.Intervals.{IsWithin, now_of}
use Rattle.spec_interval.specs.Slices.{slice}
use Rattle.spec_protocol.specs.declared.event.Event.{Event}
use Rattle.spec_sphere.specs.sphere.Spheres.{Role, Plain, Record, Replay, Cursor, Sphere, replays}
use Rattle.spec_protocol.specs.machine.World.{World, sphere_at}
use Rattle.spec_sphere.specs.sphere.Setups.{ReplaySetup, all_of, EpochSetup, RecordSetup, RoleSetup, IsPlain, IsRecorded, IsReplayed, SphereSetup}
use Rattle.spec_protocol.specs.machine.Machine.{Setup}
use Rattle.spec_protocol.specs.machine.Serial.{serial_start, CanDoAll}
use Rattle.spec_protocol.specs.machine.Logged.{sphere_in}
use Rattle.spec_protocol.specs.promises.Sound.{IsWithinLimits, image_at}
use Rattle.spec_protocol.specs.promises.Promises.{IsSetup, after}
use Rattle.spec_protocol.specs.promises.Kept.{NoneIsDue, Shows, WillKeep}
use Rattle.spec_finishing.specs.Ending.{CanFinish, IsAtEnd}
use Rattle.spec_finishing.specs.Function.{finishing_of}
use Rattle.spec_run.specs.Runs.{counts_of, points_of, executed, played, played_end, end_of}
use Rattle.spec_run.specs.Tails.{tail_of_points}
use Rattle.spec_run.specs.Texts.{account_as, account_text, console_text, executed_account, log_text, log_of_points, played_account}
use Rattle.spec_tail.specs.Cutting.{IsTailOf}
use Rattle.spec_tail.specs.Playing.{walked}
use Rattle.spec_tail.specs.Tails.{Tail, IsTail, state_of, words_of}

-- ---- a run that is over

-- the world shows what the schedule and the events that finish it leave, and no epoch is to begin
pub record ShowsRun (s : Setup) (es : List Event) (w : World) : Type 0 where
  pub shows : Shows s (es ++ finishing_of s es) w
  pub still : NoneIsDue w

-- ---- a sphere

-- how a sphere's run ended: a replay as its cursor says; the others are complete
abbrev pub end_as : Role → (commits : ℕ) → End
end_as Plain n = End.Complete n
end_as (Record recording) n = End.Complete n
end_as (Replay b) n = end_of b.now

-- the account of what a sphere holds
abbrev pub account_held : Sphere → List ℕ
account_held p =
    account_of p.progress.first p.progress.commits p.threads p.progress.request p.memory (end_as p.role (position p.progress))

-- a sphere that is recorded in epochs holds this tail: the log, and the state where the earliest of its epochs begins
pub record HoldsTail (t : Tail) (p : Sphere) : Type 0 where
  pub size : ℕ
  pub keep : ℕ
  pub earliest : Epoch
  pub later : List Epoch
  pub role : p.role ≡ Record (record { log = t.log; epochs = Some (record { size = size; keep = keep; begun = earliest ∷ later }) })
  pub state : earliest.state ≡ state_of t
  pub first : p.progress.first ≡ t.base

-- a recorded sphere has its whole log, or a tail if it is recorded in epochs
abbrev pub HasRecorded : Setup → (schedule : List Event) → (i : ℕ) → RecordSetup → Option EpochSetup → Sphere → Type 0
HasRecorded s es i asked None p = p.role ≡ Record (record { log = log_of_points s es i asked; epochs = None })
HasRecorded s es i asked (Some x) p = HoldsTail (tail_of_points s es i asked x) p

-- a sphere is replayed if it was set up so
abbrev pub HasRole : Setup → (schedule : List Event) → (i : ℕ) → RoleSetup → Sphere → Type 0
HasRole s es i IsPlain p = p.role ≡ Plain
HasRole s es i (IsRecorded asked) p = HasRecorded s es i asked asked.epochs p
HasRole s es i (IsReplayed asked) p = (b : Cursor) × (p.role ≡ Replay b)

-- sphere i, which was set up from the image, is p in the end
pub record IsDescribed (s : Setup) (es : List Event) (i : ℕ) (image : SphereSetup) (p : Sphere) : Type 0 where
  pub role : HasRole s es i image.role p
  pub account : account_held p ≡ account_as image (sphere_in (executed s es) i) image.role
  -- a plain or recorded one has done as many commits as executing the points does
  pub commits : replays p.role ≡ false → position p.progress ≡ position (sphere_in (executed s es) i).progress
  -- a replayed one has done the commits that were asked for, and has ended as its log's play has
  pub over : IsAtEnd p.role
  pub done : (asked : ReplaySetup) → image.role ≡ IsReplayed asked → p.progress ≡ (played asked image).progress
  pub played : (asked : ReplaySetup) (b : Cursor)
      → image.role ≡ IsReplayed asked
      → p.role ≡ Replay b
      → b.now ≡ now_of asked.interval asked.log (played asked image)

-- for every setup within the limits and every schedule
abbrev pub SpheresAreDescribed : Type 0
SpheresAreDescribed =
    (s : Setup) (es : List Event) (w : World) (i : ℕ) (image : SphereSetup)
    → IsWithinLimits s
    → ShowsRun s es w
    → slice_get s.spheres i ≡ Some image
    → IsDescribed s es i image (sphere_at w i)

-- ---- the whole run

-- there are as many spheres as were set up; the points and the replies are those of the run, and the devices those of
-- executing the points; and each point can be done as it says
pub record IsRunDescribed (s : Setup) (es : List Event) (w : World) : Type 0 where
  pub spheres : length w.spheres ≡ length s.spheres
  pub points : w.points ≡ points_of s es
  pub counts : w.counts ≡ counts_of s es
  pub devices : w.devices ≡ (executed s es).devices
  pub possible : CanDoAll (serial_start s) (points_of s es)

abbrev pub RunsAreDescribed : Type 0
RunsAreDescribed = (s : Setup) (es : List Event) (w : World) → IsSetup s → ShowsRun s es w → IsRunDescribed s es w

-- ---- what follows

-- a recorded log fits its image, and the account of its play there is the recorded one, byte for byte
pub record IsReproduced (image : SphereSetup) (log : LogParts) (p : Sphere) : Type 0 where
  pub fits : FitsImage log image.memory image.entry
  pub account : played_account (played (all_of log) image) (played_end (all_of log) image) ≡ executed_account p

abbrev pub RecordingsAreReproduced : Type 0
RecordingsAreReproduced =
    (s : Setup) (es : List Event) (i : ℕ) (image : SphereSetup) (asked : RecordSetup)
    → CanFinish s
    → slice_get s.spheres i ≡ Some image
    → image.role ≡ IsRecorded asked
    → IsReproduced image (log_of_points s es i asked) (sphere_in (executed s es) i)

-- the tail is the last part of the log, and the walk of it is complete: it does the commits from its base on, and leaves what
-- the sphere is
pub record IsTailPlayed (image : SphereSetup) (log : LogParts) (t : Tail) (p : Sphere) : Type 0 where
  pub part : IsTailOf log image.memory image.entry t
  pub walked : walked t
      ≡ record {
        commits = drop t.base p.progress.commits;
        threads = p.threads;
        memory = p.memory;
        request = p.progress.request;
        end = WalkEnd.Ended (End.Complete (position p.progress));
      }

-- for every schedule, of a sphere that is recorded in epochs: the log is the whole one, as if nothing had been given up
abbrev pub TailsArePlayed : Type 0
TailsArePlayed =
    (s : Setup) (es : List Event) (i : ℕ) (image : SphereSetup) (asked : RecordSetup) (x : EpochSetup)
    → IsWithinLimits s
    → WillKeep s i image asked x
    → IsTailPlayed image (log_of_points s es i asked) (tail_of_points s es i asked x) (sphere_in (executed s es) i)

-- the numbers of a tail are as large as the file has room for: words of 32 bits, and bytes
abbrev pub IsCode : ThreadStatus → Type 0
IsCode ThreadStatus.Live = Unit {0}
IsCode (ThreadStatus.Ended code) = code < 2 ^ 32
IsCode (ThreadStatus.Fault cause) = Unit {0}

pub record HasWords (t : Tail) : Type 0 where
  pub words : All (λ p. All (λ word. word < 2 ^ 32) (words_of p)) t.threads
  pub codes : All (λ p. IsCode p.status) t.threads
  pub bytes : All (λ byte. byte < 256) t.memory

-- what a run tells of a sphere that is recorded in epochs is a tail, which can be written and read back, if its numbers are so
-- large, and its log is one
abbrev pub TailsAreTails : Type 0
TailsAreTails =
    (s : Setup) (es : List Event) (i : ℕ) (image : SphereSetup) (asked : RecordSetup) (x : EpochSetup)
    → IsWithinLimits s
    → WillKeep s i image asked x
    → position (sphere_in (executed s es) i).progress ≤ 2 ^ 24
    → let t = tail_of_points s es i asked x in
    HasWords t
    → IsLog t.log
    → IsTail t

-- the account of a replayed interval is the slice of its log's play on its image, from the interval's first commit up to its
-- last
abbrev pub IntervalsAreSlices : Type 0
IntervalsAreSlices =
    (image : SphereSetup) (log : LogParts) (i : Interval)
    → IsWithin log.count i
    → let asked : ReplaySetup = record { log = log; interval = Some i; strata = None } in
    played_account (played asked image) (played_end asked image)
    ≡ (slice log image.memory image.entry i.first i.last).text

-- two runs that agree on a sphere's image, memory size, log and interval write the same account of it, whatever else differs:
-- cores, depth, buffers, windows, signatures, schedules, devices and the other spheres
abbrev pub AccountsAgree : Type 0
AccountsAgree =
    (s z : Setup) (es fs : List Event) (i j : ℕ) (asked : ReplaySetup)
    → (image_at s i).role ≡ IsReplayed asked
    → image_at z j ≡ image_at s i
    → account_text z fs j ≡ account_text s es i

-- the setups differ at most in cores, depth, windows, buffers and signatures
pub record AreAlike (s z : Setup) : Type 0 where
  pub chunk : s.numbers.s ≡ z.numbers.s
  pub seed : s.seed ≡ z.seed
  pub input : s.input ≡ z.input
  pub spheres : s.spheres ≡ z.spheres

pub record HaveSameTexts (s z : Setup) (es fs : List Event) : Type 0 where
  pub logs : (i : ℕ) → log_text s es i ≡ log_text z fs i
  pub accounts : (i : ℕ) → account_text s es i ≡ account_text z fs i
  pub console : console_text s es ≡ console_text z fs

-- if the points of two such runs are the same, so are the logs, the accounts and the console: a false hit of signatures
-- changes them only through the order of commits
abbrev pub TextsAreOfPoints : Type 0
TextsAreOfPoints =
    (s z : Setup) (es fs : List Event)
    → AreAlike s z
    → points_of s es ≡ points_of z fs
    → HaveSameTexts s z es fs

-- ---- room

-- after a schedule of at most 2^24 events a plain or recorded sphere has fewer commits, because the first event commits nothing
abbrev pub SchedulesLeaveRoom : Type 0
SchedulesLeaveRoom =
    (s : Setup) (es : List Event) (i : ℕ)
    → IsWithinLimits s
    → length es ≤ 2 ^ 24
    → i < length (after s es).spheres
    → replays (sphere_at (after s es) i).role ≡ false
    → position (sphere_at (after s es) i).progress < 2 ^ 24
