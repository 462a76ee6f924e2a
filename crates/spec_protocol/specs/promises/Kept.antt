-- What a world shows whose recordings in epochs give up their earliest commits: what it has is the end of what the points tell.
use Rattle.std.specs.Prelude.{◌≡◌, ℕ, ◌+◌, ◌*◌, ◌<◌, ◌≤◌, false, List, [], ◌∷◌, ◌++◌, drop, slice_get, Option, Some, None}
use Rattle.dl_entry.specs.declared.Point.{Point}
use Rattle.spec_play.specs.Progress.{position}
use Rattle.spec_play.specs.Epochs.{log_from}
use Rattle.spec_play.specs.Plays.{opened, plays}
use Rattle.spec_protocol.specs.declared.event.Event.{Event}
use Rattle.spec_sphere.specs.sphere.Spheres.{Recording, Record, Sphere}
use Rattle.spec_protocol.specs.machine.World.{World, moment, sphere_at}
use Rattle.spec_sphere.specs.sphere.Setups.{EpochSetup, RecordSetup, IsRecorded, SphereSetup}
use Rattle.spec_protocol.specs.machine.Machine.{Setup, world_of, happens}
use Rattle.spec_protocol.specs.machine.Serial.{serial}
use Rattle.spec_protocol.specs.machine.Logged.{sphere_in}
use Rattle.spec_protocol.specs.machine.Epochs.{epochs_begun}
use Rattle.spec_sphere.specs.sphere.Epochs.{base_of}
use Rattle.spec_protocol.specs.machine.Kept.{epoch_of, epochs_of, supplied_since, tail_log}
use Rattle.spec_protocol.specs.promises.ConsoleBytes.{place_of}
use Rattle.spec_protocol.specs.promises.Promises.{after}
use Rattle.spec_protocol.specs.promises.LogsOfPoints.{log_of_points}
use Rattle.spec_protocol.specs.promises.Sound.{IsWithinLimits, IsSound}
use Rattle.spec_protocol.specs.promises.Alike.{all_forgotten, AreAlike}
use Rattle.spec_sphere.specs.promises.Kept.{has_due, IsSoundTail, HasComeTo}

-- ---- one sphere

-- sphere i, which is q after these points, has given up so many epochs and keeps so many; x says how they are asked for
pub record IsKeptFrom
    (s : Setup) (ps : List Point) (i : ℕ) (asked : RecordSetup) (x : EpochSetup) (given kept : ℕ) (q : Sphere)
    : Type 0 where
  -- its commits are those from the base on
  pub first : q.progress.first ≡ given * x.size
  pub commits : q.progress.commits ≡ drop (given * x.size) (sphere_in (serial s ps) i).progress.commits
  -- so is its log, and each kept epoch begins right after the commit before it
  pub role : q.role
      ≡ Record (record {
        log = tail_log s ps i asked (given * x.size);
        epochs = Some (record { size = x.size; keep = x.keep; begun = epochs_of s ps i x.size (given * x.size) kept });
      })
  -- none is given up before there are too many
  pub few : kept ≤ x.keep
  pub all : 0 < given → kept ≡ x.keep
  -- the next epoch begins within the next `size` commits; if it is due, nothing has come after the last commit
  pub next : position q.progress ≤ (given + kept) * x.size
  pub last : (given + kept) * x.size ≤ position q.progress + x.size
  pub still : position q.progress ≡ (given + kept) * x.size → supplied_since s ps i (position q.progress) ≡ []

abbrev pub IsKept : Setup → List Point → (i : ℕ) → RecordSetup → EpochSetup → Sphere → Type 0
IsKept s ps i asked x q = (given : ℕ) × (kept : ℕ) × IsKeptFrom s ps i asked x given kept q

-- ---- a world

-- sphere i is set up by the image, to be recorded so in epochs
pub record WillKeep (s : Setup) (i : ℕ) (image : SphereSetup) (asked : RecordSetup) (x : EpochSetup) : Type 0 where
  pub there : slice_get s.spheres i ≡ Some image
  pub role : image.role ≡ IsRecorded asked
  pub epochs : asked.epochs ≡ Some x

-- after these events the world is alike to what they leave if nothing is given up, and its recordings in epochs have the end
-- of that
pub record Shows (s : Setup) (es : List Event) (w : World) : Type 0 where
  pub alike : AreAlike w (after s es)
  pub kept : (i : ℕ) (image : SphereSetup) (asked : RecordSetup) (x : EpochSetup)
      → WillKeep s i image asked x
      → IsKept s (after s es).points i asked x (sphere_at w i)

-- ---- whether an epoch is due

-- in the sphere in which something takes effect no epoch is due
abbrev pub IsReady : World → Option Point → Type 0
IsReady w None = Unit {0}
IsReady w (Some q) = has_due (sphere_at w (place_of q)) ≡ false

abbrev pub NoneIsDue : World → Type 0
NoneIsDue w = (i : ℕ) → has_due (sphere_at w i) ≡ false

-- ---- what is promised, of a setup within its limits

-- the whole log of a recorded sphere, without what comes before an epoch, is that of the points since it began
abbrev pub TailsAreOfPoints : Type 0
TailsAreOfPoints =
    (s : Setup) (es : List Event) (i : ℕ) (image : SphereSetup) (asked : RecordSetup) (n : ℕ)
    → IsWithinLimits s
    → slice_get s.spheres i ≡ Some image
    → image.role ≡ IsRecorded asked
    → let ps = (after s es).points in
    n ≤ position (sphere_in (serial s ps) i).progress
    → log_from n (epoch_of s ps i n).inputs (epoch_of s ps i n).state (log_of_points s es i asked) ≡ tail_log s ps i asked n

-- so it has after as many commits
abbrev pub EpochsAreOfPlays : Type 0
EpochsAreOfPlays =
    (s : Setup) (es : List Event) (i : ℕ) (image : SphereSetup) (asked : RecordSetup) (n : ℕ)
    → IsWithinLimits s
    → slice_get s.spheres i ≡ Some image
    → image.role ≡ IsRecorded asked
    → let ps = (after s es).points in
    let log = log_of_points s es i asked in
    n ≤ position (sphere_in (serial s ps) i).progress
    → HasComeTo (plays log (opened log image.memory image.entry) n) (epoch_of s ps i n) (tail_log s ps i asked n)

pub record WorldsShowTails (s : Setup) : Type 0 where
  -- so it is at first
  pub start : Shows s [] (world_of s)
  -- an event keeps it
  pub event : (es : List Event) (w : World) (e : Event)
      → Shows s es w
      → IsReady w (happens w e).point
      → Shows s (es ++ e ∷ []) (happens w e).world
  -- epochs that begin keep it, and then none is due
  pub begun : (es : List Event) (w : World) → Shows s es w → Shows s es (epochs_begun w)
  pub ready : (es : List Event) (w : World) → Shows s es w → NoneIsDue (epochs_begun w)
  -- so any event keeps it before which they begin
  pub after : (es : List Event) (w : World) (e : Event)
      → Shows s es w
      → Shows s (es ++ e ∷ []) (happens (epochs_begun w) e).world
  -- if none is due, the earliest kept epoch begins at the base
  pub base : (es : List Event) (w : World) (i : ℕ) (image : SphereSetup) (asked : RecordSetup) (x : EpochSetup)
      → Shows s es w
      → NoneIsDue w
      → WillKeep s i image asked x
      → let g = (sphere_at w i).progress in g.first ≡ base_of (position g) x.size x.keep
  -- what a recording still has is sound, and so is all else
  pub tails : (es : List Event) (w : World) (i : ℕ) (image : SphereSetup) (asked : RecordSetup) (x : EpochSetup)
      → Shows s es w
      → WillKeep s i image asked x
      → (recording : Recording)
      → (sphere_at w i).role ≡ Record recording
      → IsSoundTail (moment w) (sphere_at w i) recording.log
  pub rest : (es : List Event) (w : World) → Shows s es w → IsSound s (all_forgotten w)

abbrev pub RecordingsAreKept : Type 0
RecordingsAreKept = (s : Setup) → IsWithinLimits s → WorldsShowTails s
