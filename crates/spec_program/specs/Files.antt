-- What a plan has read: the bytes of its files, and what its script, its logs and its strata say, each where the plan names it,
-- or the first name that is absent.
use Rattle.std.specs.Prelude.{ℕ, List, [], ◌∷◌, Option, Some, None, Result, Ok, ok_or}
use Rattle.std.specs.FinMap.{get}
use Rattle.dl_event.specs.Script.{script_of}
use Rattle.dl_files.specs.Contents.{Contents}
use Rattle.dl_plan.specs.declared.Mode.{Mode}
use Rattle.dl_plan.specs.Values.{ScheduleValues, Script, Seeded, EpochValues, RoleValues, Plain, Record, Replay, InStrata, SphereValues, PlanValues}
use Rattle.spec_log.specs.declared.LogParts.{LogParts}
use Rattle.spec_log.specs.declared.fault.Fault.{Fault}
use Rattle.spec_log.specs.Reading.{read_of}
use Rattle.spec_protocol.specs.declared.event.Event.{Event}
use Rattle.spec_strata.specs.Reading as strata
use Rattle.spec_strata.specs.declared.strata.StrataParts.{StrataParts}
use Rattle.spec_program.specs.Stages.{◌>>◌}

-- of a script its events, or the number of the first line that is refused; or how many events are to be drawn
pub data ScheduleRead : Type 0 where
  ScriptRead : (script : Result (List Event) ℕ) → ScheduleRead
  EventsDrawn : (events : ℕ) → ScheduleRead

-- of what is recorded, the version of the log, the mode, and its epochs, if it is recorded in epochs
pub record RecordInputs : Type 0 where
  pub version : ℕ
  pub mode : Mode
  pub epochs : Option EpochValues

-- of what is replayed, the log, or the first of its fields that isn't good; and from which of its commits on and up to which
-- it is replayed, if the plan says so
pub record ReplayInputs : Type 0 where
  pub log : Result LogParts Fault
  pub from : Option ℕ
  pub to : Option ℕ

-- all commits of a good log
abbrev pub whole : LogParts → ReplayInputs
whole log = record { log = Ok log; from = None; to = None }

-- of strata that are replayed what their bytes say, or the first of their fields that isn't good
pub data RoleRead : Type 0 where
  PlainRead : RoleRead
  RecordRead : (inputs : RecordInputs) → RoleRead
  ReplayRead : (inputs : ReplayInputs) → RoleRead
  StrataRead : (strata : Result StrataParts Fault) → RoleRead

pub record SphereRead : Type 0 where
  pub image : List ℕ
  pub memory : ℕ
  pub role : RoleRead

pub record PlanRead : Type 0 where
  pub schedule : ScheduleRead
  pub input : List ℕ
  pub spheres : List SphereRead

-- ---- in the order of the work

-- the bytes of the file of that name, or the name
abbrev pub read_at : Contents → (name : List ℕ) → Result (List ℕ) (List ℕ)
read_at m name = ok_or (get m name) name

-- what the file of that name says as a log
abbrev pub log_at : Contents → (name : List ℕ) → Result (Result LogParts Fault) (List ℕ)
log_at m name = read_at m name >> λ bytes. Ok (read_of bytes)

-- what the file of that name says as strata
abbrev pub strata_at : Contents → (name : List ℕ) → Result (Result StrataParts Fault) (List ℕ)
strata_at m name = read_at m name >> λ bytes. Ok (strata.read_of bytes)

-- what the file of that name says as a script
abbrev pub script_at : Contents → (name : List ℕ) → Result (Result (List Event) ℕ) (List ℕ)
script_at m name = read_at m name >> λ bytes. Ok (script_of bytes)

abbrev pub schedule_read : Contents → ScheduleValues → Result ScheduleRead (List ℕ)
schedule_read m (Script name) = script_at m name >> λ script. Ok (ScriptRead script)
schedule_read m (Seeded events) = Ok (EventsDrawn events)

-- without a file there are no bytes
abbrev pub input_read : Contents → Option (List ℕ) → Result (List ℕ) (List ℕ)
input_read m None = Ok []
input_read m (Some name) = read_at m name

abbrev pub role_read : Contents → RoleValues → Result RoleRead (List ℕ)
role_read m Plain = Ok PlainRead
role_read m (Record values) = Ok (RecordRead (record { version = values.version; mode = values.mode; epochs = values.epochs }))
role_read m (Replay values) = log_at m values.log >> λ read. Ok (ReplayRead (record { log = read; from = values.from; to = values.to }))
role_read m (InStrata name) = strata_at m name >> λ read. Ok (StrataRead read)

abbrev pub sphere_read : Contents → SphereValues → Result SphereRead (List ℕ)
sphere_read m s =
    read_at m s.image >> λ image.
    role_read m s.role >> λ role.
    Ok (record { image = image; memory = s.memory; role = role })

abbrev pub spheres_read : Contents → List SphereValues → Result (List SphereRead) (List ℕ)
spheres_read m [] = Ok []
spheres_read m (s ∷ ss) =
    sphere_read m s >> λ sphere.
    spheres_read m ss >> λ spheres.
    Ok (sphere ∷ spheres)

abbrev pub plan_read : Contents → PlanValues → Result PlanRead (List ℕ)
plan_read m p =
    schedule_read m p.schedule >> λ schedule.
    input_read m p.input >> λ input.
    spheres_read m p.spheres >> λ spheres.
    Ok (record { schedule = schedule; input = input; spheres = spheres })
