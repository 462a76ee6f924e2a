-- What a plan has read, as the definitions see it, and what is true of it.
use Rattle.std.specs.Prelude.{◌≡◌, ℕ, ◌≤◌, ◌^◌, ⊤, List, map, length, option_map, IfOk}
use Rattle.std.specs.List.{AllByRecursion}
use Rattle.dl_logio.specs.Files.{read_view}
use Rattle.dl_scriptio.specs.Files.{read_view as script_view}
use Rattle.dl_plan.specs.Values.{PlanValues, RecordValues, RoleValues, Plain, Record, Replay, InStrata, SphereValues, IsMemory, epochs_view}
use Rattle.spec_play.specs.Intervals.{AreOrdered}
use Rattle.spec_sphere.specs.promises.Sound.{IsRecordable}
use Rattle.spec_program.specs.Built.{record_setup}
use Rattle.spec_program.specs.Files.{ScheduleRead, ScriptRead, EventsDrawn, RecordInputs, RoleRead, PlainRead, RecordRead}
use Rattle.spec_program.specs.Files.{ReplayRead, StrataRead, SphereRead, PlanRead}
use Rattle.spec_strata.specs.Reading as strata
use Rattle.dl_gather.specs.declared.inputs.ScheduleInputs.{ScheduleInputs}
use Rattle.dl_gather.specs.declared.inputs.RoleInputs.{RoleInputs}
use Rattle.dl_gather.specs.declared.inputs.SphereInputs.{SphereInputs}
use Rattle.dl_gather.specs.declared.inputs.Inputs.{Inputs}
use Rattle.dl_gather.specs.declared.inputs.PlaybackRead.{PlaybackRead}
use Rattle.spec_program.specs.Operands as operands

abbrev pub schedule_view : ScheduleInputs → ScheduleRead
schedule_view (ScheduleInputs.Script script) = ScriptRead (script_view script)
schedule_view (ScheduleInputs.Drawn events) = EventsDrawn events

abbrev pub role_view : RoleInputs → RoleRead
role_view RoleInputs.Plain = PlainRead
role_view (RoleInputs.Record version mode epochs) =
    RecordRead (record { version = version; mode = mode; epochs = option_map epochs_view epochs })
role_view (RoleInputs.Replay log from to) = ReplayRead (record { log = read_view log; from = from; to = to })
role_view (RoleInputs.InStrata bytes) = StrataRead (strata.read_of bytes.items)

abbrev pub sphere_view : SphereInputs → SphereRead
sphere_view s = record { image = s.image.items; memory = s.memory; role = role_view s.role }

abbrev pub inputs_view : Inputs → PlanRead
inputs_view r = record { schedule = schedule_view r.schedule; input = r.input.items; spheres = map sphere_view r.spheres.items }

-- an image and a log
abbrev pub playback_view : PlaybackRead → operands.PlaybackRead
playback_view p = record { image = p.image; log = p.log }

-- ---- what is true of them

-- the events are at most 2^24
abbrev pub IsScheduleRead : ScheduleRead → Type 0
IsScheduleRead (ScriptRead script) = IfOk script (λ events. length events ≤ 2 ^ 24)
IsScheduleRead (EventsDrawn events) = events ≤ 2 ^ 24

-- each memory has a size
abbrev pub HaveMemories : List SphereRead → Type 0
HaveMemories spheres = AllByRecursion (λ (s : SphereRead). IsMemory s.memory) spheres

-- what a recording has read is what is planned of it
abbrev pub recorded_as : RecordValues → RecordInputs
recorded_as values = record { version = values.version; mode = values.mode; epochs = values.epochs }

-- the log of what is recorded, as planned or as read, can have standard chunks of s instructions; of what is replayed, the
-- first commit isn't after the last
abbrev pub IsPlannedRole : (s : ℕ) → RoleValues → Type 0
IsPlannedRole s Plain = ⊤
IsPlannedRole s (Record values) = IsRecordable s (record_setup (recorded_as values))
IsPlannedRole s (Replay values) = AreOrdered values.from values.to
IsPlannedRole s (InStrata strata) = ⊤

abbrev pub IsReadRole : (s : ℕ) → RoleRead → Type 0
IsReadRole s PlainRead = ⊤
IsReadRole s (RecordRead inputs) = IsRecordable s (record_setup inputs)
IsReadRole s (ReplayRead inputs) = AreOrdered inputs.from inputs.to
IsReadRole s (StrataRead read) = ⊤

abbrev pub ArePlannedRoles : (s : ℕ) → List SphereValues → Type 0
ArePlannedRoles s spheres = AllByRecursion (λ (x : SphereValues). IsPlannedRole s x.role) spheres

abbrev pub AreReadRoles : (s : ℕ) → List SphereRead → Type 0
AreReadRoles s spheres = AllByRecursion (λ (x : SphereRead). IsReadRole s x.role) spheres

-- the plan's numbers are within their limits, and each of its spheres is read
pub record AreOf (p : PlanValues) (r : PlanRead) : Type 0 where
  pub schedule : IsScheduleRead r.schedule
  pub count : length r.spheres ≡ length p.spheres
  pub memories : HaveMemories r.spheres
  pub roles : AreReadRoles p.sizes.chunk r.spheres
