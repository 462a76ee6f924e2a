-- How a sphere starts: plain, recorded or replayed.
use Rattle.std.specs.Prelude.{ℕ, List, [], ◌∷◌, Option, Some, None, option_map}
use Rattle.spec_isa.specs.declared.thread.Parts.{Parts}
use Rattle.spec_isa.specs.Threads.{started}
use Rattle.spec_log.specs.declared.ModeName.{ModeName}
use Rattle.spec_log.specs.declared.LogParts.{LogParts}
use Rattle.spec_play.specs.Progress.{no_progress, position}
use Rattle.spec_play.specs.Recording.{new_log}
use Rattle.spec_play.specs.declared.interval.Interval.{Interval}
use Rattle.spec_play.specs.Plays.{Played, plays}
use Rattle.spec_play.specs.Intervals.{begun, commits_in}
use Rattle.spec_play.specs.Epochs.{Epochs}
use Rattle.spec_strata.specs.declared.stratum.Stratum.{Stratum}
use Rattle.spec_strata.specs.declared.strata.StrataParts.{StrataParts}
use Rattle.spec_strata.specs.Canonical.{canonical}
use Rattle.spec_strata.specs.Standing.{Standing, stratum_begun}
use Rattle.spec_sphere.specs.sphere.Spheres.{Recording, Role, Plain, Record, Replay, Sphere}
use Rattle.spec_sphere.specs.sphere.Commits.{between}

-- ---- the start

-- how many commits an epoch of a recording has, and how many epochs are kept
pub record EpochSetup : Type 0 where
  pub size : ℕ
  pub keep : ℕ

-- how a sphere is recorded: whole, or in epochs
pub record RecordSetup : Type 0 where
  pub version : ℕ
  pub mode : ModeName
  pub epochs : Option EpochSetup

-- what is replayed: the commits of a log, or those of an interval; and in which runs they may be done in another order, if
-- there are such runs
pub record ReplaySetup : Type 0 where
  pub log : LogParts
  pub interval : Option Interval
  pub strata : Option (List Stratum)

-- all commits of a log
abbrev pub all_of : LogParts → ReplaySetup
all_of log = record { log = log; interval = None; strata = None }

-- the commits of strata, which are those of their log
abbrev pub in_strata : StrataParts → ReplaySetup
in_strata v = record { log = canonical v; interval = None; strata = Some v.strata }

-- what a plan says of a sphere: it is plain, or recorded, or replayed
pub data RoleSetup : Type 0 where
  IsPlain : RoleSetup
  IsRecorded : (asked : RecordSetup) → RoleSetup
  IsReplayed : (asked : ReplaySetup) → RoleSetup

-- no epoch has begun yet
abbrev pub new_epochs : Option EpochSetup → Option Epochs
new_epochs None = None
new_epochs (Some asked) = Some (record { size = asked.size; keep = asked.keep; begun = [] })

-- what a recorded sphere begins with
abbrev pub new_recording : RecordSetup → (s : ℕ) → Recording
new_recording asked s = record { log = new_log asked.version asked.mode s; epochs = new_epochs asked.epochs }

-- of its image the bytes of memory, and where thread 0 starts
pub record SphereSetup : Type 0 where
  pub memory : List ℕ
  pub entry : ℕ
  pub role : RoleSetup

-- ---- a replay

-- the play of a log on the image: where what is replayed begins, and where it has ended
abbrev pub first_played : SphereSetup → ReplaySetup → Played
first_played image asked = begun asked.log image.memory image.entry asked.interval

abbrev pub last_played : SphereSetup → ReplaySetup → Played
last_played image asked =
    plays asked.log (first_played image asked) (commits_in asked.log.count asked.interval)

-- nothing of the first stratum is done
abbrev pub first_standing : ReplaySetup → Option Standing
first_standing asked = option_map (λ strata. stratum_begun strata 0) asked.strata

-- a replayed sphere where its play begins
abbrev pub replay_at : ReplaySetup → Played → Sphere
replay_at asked y =
    record {
      memory = y.memory;
      threads = y.threads;
      progress = y.progress;
      role = Replay (between asked.log asked.interval (first_standing asked) (position y.progress) y.used y.now);
    }

-- ---- a sphere

-- thread 0 alone, at the entry of the image
abbrev pub first_threads : SphereSetup → List Parts
first_threads image = started image.entry ∷ []

abbrev pub live_sphere : SphereSetup → Role → Sphere
live_sphere image role =
    record { memory = image.memory; threads = first_threads image; progress = no_progress; role = role }

abbrev pub sphere_as : (s : ℕ) → SphereSetup → RoleSetup → Sphere
sphere_as s image IsPlain = live_sphere image Plain
sphere_as s image (IsRecorded asked) = live_sphere image (Record (new_recording asked s))
sphere_as s image (IsReplayed asked) = replay_at asked (first_played image asked)

abbrev pub sphere_of : (s : ℕ) → SphereSetup → Sphere
sphere_of s image = sphere_as s image image.role
