-- What a plan says of a sphere, as the definitions have it.
use Rattle.std.specs.Prelude.{◌≡◌, ℕ, ◌<◌, List, Option, Some, None, option_map}
use Rattle.dl_entry.specs.declared.End.{End}
use Rattle.dl_entry.specs.declared.Why.{Why}
use Rattle.spec_log.specs.declared.ModeName.{ModeName}
use Rattle.spec_log.specs.declared.LogParts.{LogParts}
use Rattle.spec_play.specs.declared.interval.Interval.{Interval}
use Rattle.spec_play.specs.Intervals.{IsWithin}
use Rattle.spec_play.specs.Progress.{position}
use Rattle.spec_play.specs.Plays.{Played}
use Rattle.spec_play.specs.States.{state_of}
use Rattle.spec_play.specs.Turns.{Ended}
use Rattle.spec_sphere.specs.sphere.Setups as protocol
use Rattle.spec_sphere.specs.sphere.Setups.{first_played}
use Rattle.spec_sphere.specs.sphere.Spheres as machine
use Rattle.spec_sphere.specs.promises.Sound.{AreReplayableIf, IsRecordable}
use Rattle.spec_strata.specs.declared.stratum.Stratum.{Stratum}
use Rattle.spec_strata.specs.declared.strata.StrataParts.{StrataParts}
use Rattle.spec_strata.specs.Canonical.{canonical}
use Rattle.dl_kernel.specs.States.{state_in}
use Rattle.dl_sphere.specs.declared.setup.Begun.{Begun}
use Rattle.dl_sphere.specs.declared.setup.Epochs.{Epochs}
use Rattle.dl_sphere.specs.declared.setup.Replay.{Replay}
use Rattle.dl_sphere.specs.declared.setup.Role.{Role}
use Rattle.dl_sphere.specs.declared.setup.SphereSetup.{SphereSetup}

-- the interval that begins there, and why the log's play has diverged before it, if it has
abbrev pub interval_in : Option Begun → Option Interval
interval_in None = None
interval_in (Some b) = Some b.interval

abbrev pub diverged_in : Option Begun → Option Why
diverged_in None = None
diverged_in (Some b) = b.diverged

-- the log that is replayed, which of strata is the one with their order; where an interval begins, if one is replayed; and the
-- strata, if some are
abbrev pub log_of : Replay → LogParts
log_of (Replay.Log log begun) = log
log_of (Replay.Strata v) = canonical v.value

abbrev pub begun_of : Replay → Option Begun
begun_of (Replay.Log log begun) = begun
begun_of (Replay.Strata v) = None

abbrev pub strata_of : Replay → Option StrataParts
strata_of (Replay.Log log begun) = None
strata_of (Replay.Strata v) = Some v.value

-- where the role begins, if it replays an interval
abbrev pub begun_as : Role → Option Begun
begun_as Role.Plain = None
begun_as (Role.Record version mode epochs) = None
begun_as (Role.Replay replay) = begun_of replay

-- in which runs it may be replayed, if it is in strata
abbrev pub strata_in : Option StrataParts → Option (List Stratum)
strata_in None = None
strata_in (Some v) = Some v.strata

-- the strata of a role, if it replays some
abbrev pub strata_as : Role → Option StrataParts
strata_as Role.Plain = None
strata_as (Role.Record version mode epochs) = None
strata_as (Role.Replay replay) = strata_of replay

abbrev pub replay_setup : Replay → protocol.ReplaySetup
replay_setup r = record { log = log_of r; interval = interval_in (begun_of r); strata = strata_in (strata_of r) }

abbrev pub epoch_setup : Epochs → protocol.EpochSetup
epoch_setup e = record { size = e.size; keep = e.keep }

abbrev pub record_setup : (version : ℕ) → ModeName → Option Epochs → protocol.RecordSetup
record_setup version mode epochs = record { version = version; mode = mode; epochs = option_map epoch_setup epochs }

abbrev pub role_setup : Role → protocol.RoleSetup
role_setup Role.Plain = protocol.IsPlain
role_setup (Role.Record version mode epochs) = protocol.IsRecorded (record_setup version mode epochs)
role_setup (Role.Replay replay) = protocol.IsReplayed (replay_setup replay)

abbrev pub setup_of : SphereSetup → protocol.SphereSetup
setup_of s = record { memory = s.image.bytes; entry = s.image.entry; role = role_setup s.role }

-- if the sphere is recorded, there is such a version of logs, and standard chunks of s instructions and the epochs fit it
abbrev pub IsRecordableIf : (s : ℕ) → protocol.RoleSetup → Type 0
IsRecordableIf s protocol.IsPlain = Unit {0}
IsRecordableIf s (protocol.IsRecorded asked) = IsRecordable s asked
IsRecordableIf s (protocol.IsReplayed asked) = Unit {0}

-- ---- where intervals begin

-- the play y has done all commits before the interval, or it has diverged at one of them for this reason
abbrev pub HasCome : Option Why → Interval → Played → Type 0
HasCome None i y = position y.progress ≡ i.first
HasCome (Some why) i y =
    (position y.progress < i.first) × (y.now ≡ Ended (End.Diverged (position y.progress) why))

-- the interval is within the log, and its beginning is in the state of the log's play on the image
pub record IsBegun (image : protocol.SphereSetup) (asked : protocol.ReplaySetup) (b : Begun) : Type 0 where
  pub within : IsWithin asked.log.count b.interval
  pub state : state_in b.state ≡ state_of (first_played image asked)
  pub come : HasCome b.diverged b.interval (first_played image asked)

abbrev pub IsBegunIf : protocol.SphereSetup → protocol.ReplaySetup → Option Begun → Type 0
IsBegunIf image asked None = Unit {0}
IsBegunIf image asked (Some b) = IsBegun image asked b

-- strata, if there are some, are parallel on the image
abbrev pub AreParallelIf : protocol.SphereSetup → Replay → Type 0
AreParallelIf image r = AreReplayableIf image.memory image.entry (replay_setup r) (strata_in (strata_of r))

abbrev pub IsBegunAs : protocol.SphereSetup → Role → Type 0
IsBegunAs image Role.Plain = Unit {0}
IsBegunAs image (Role.Record version mode epochs) = Unit {0}
IsBegunAs image (Role.Replay replay) =
    IsBegunIf image (replay_setup replay) (begun_of replay) × AreParallelIf image replay

-- if an interval of a log is replayed, it begins where the log's play on the image is; and if strata are, all of them are,
-- and they are parallel on the image
abbrev pub HasBegun : SphereSetup → Type 0
HasBegun s = IsBegunAs (setup_of s) s.role

-- what a role asks of its sphere's image
abbrev pub IsParallelAs : protocol.SphereSetup → protocol.RoleSetup → Type 0
IsParallelAs image protocol.IsPlain = Unit {0}
IsParallelAs image (protocol.IsRecorded asked) = Unit {0}
IsParallelAs image (protocol.IsReplayed asked) = AreReplayableIf image.memory image.entry asked asked.strata

-- ---- standard sizes

-- the standard size of a sphere's chunks: that of the plan, or of the log that is replayed
abbrev pub standard_asked : (s : ℕ) → protocol.RoleSetup → ℕ
standard_asked s protocol.IsPlain = s
standard_asked s (protocol.IsRecorded asked) = s
standard_asked s (protocol.IsReplayed asked) = asked.log.s

abbrev pub standard_in : (s : ℕ) → machine.Role → ℕ
standard_in s machine.Plain = s
standard_in s (machine.Record recording) = s
standard_in s (machine.Replay b) = b.log.s

-- strata begin before the first commit
abbrev pub IsFirstIf : Replay → (commits : ℕ) → Type 0
IsFirstIf (Replay.Log log begun) n = Unit {0}
IsFirstIf (Replay.Strata v) n = n ≡ 0
