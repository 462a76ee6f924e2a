-- What is built of the files that a plan has read: the images, the roles with their logs and strata, the events, and the
-- setup of the machine; or the first of them that is refused.
use Rattle.std.specs.Prelude.{ℕ, suc, List, [], ◌∷◌, None, option_map, Result, Ok, Err}
use Rattle.dl_elf.specs.Images.{Image}
use Rattle.dl_elf.specs.Loading.{image_of}
use Rattle.dl_event.specs.Seeded.{seeded, schedule}
use Rattle.dl_plan.specs.declared.Mode.{Mode}
use Rattle.dl_plan.specs.declared.Sizes.{Sizes}
use Rattle.dl_plan.specs.Values.{EpochValues, PlanValues}
use Rattle.spec_log.specs.declared.LogParts.{LogParts}
use Rattle.spec_log.specs.declared.ModeName.{ModeName}
use Rattle.spec_log.specs.declared.fault.Fault.{Fault}
use Rattle.spec_play.specs.Intervals.{interval_of}
use Rattle.spec_protocol.specs.declared.event.Event.{Event}
use Rattle.spec_sphere.specs.sphere.Setups.{EpochSetup, RecordSetup, ReplaySetup, RoleSetup, IsPlain, IsRecorded, IsReplayed, SphereSetup, in_strata}
use Rattle.spec_protocol.specs.machine.Machine.{Setup}
use Rattle.spec_protocol.specs.machine.World.{Numbers}
use Rattle.spec_strata.specs.declared.strata.StrataParts.{StrataParts}
use Rattle.spec_strata.specs.Checking.{StrataAnswer, Parallel, Unfit, Conflict, answer_of}
use Rattle.spec_program.specs.declared.status.Refusal.{Refusal}
use Rattle.spec_program.specs.Files.{ScheduleRead, ScriptRead, EventsDrawn, RecordInputs, ReplayInputs, RoleRead, PlainRead}
use Rattle.spec_program.specs.Files.{RecordRead, ReplayRead, StrataRead, SphereRead}
use Rattle.spec_program.specs.Lines.{image_line, log_line, bad_strata_line, script_line}
use Rattle.spec_program.specs.Stages.{Refused, refusing, ◌>>◌}

-- ---- images, of the spheres from number i on

abbrev pub bad_image : (sphere rule : ℕ) → Refused
bad_image i rule = record { why = Refusal.Image; line = image_line i rule }

abbrev pub image_read : (i : ℕ) → SphereRead → Result Image Refused
image_read i s = refusing (bad_image i) (image_of s.image s.memory)

abbrev pub images_of : (i : ℕ) → List SphereRead → Result (List Image) Refused
images_of i [] = Ok []
images_of i (s ∷ ss) =
    image_read i s >> λ image.
    images_of (suc i) ss >> λ images.
    Ok (image ∷ images)

-- ---- spheres, once there are images of all

abbrev pub bad_log : (sphere : ℕ) → Fault → Refused
bad_log i fault = record { why = Refusal.Grammar; line = log_line i fault.number fault.offset }

-- of strata the first field that isn't good, or a commit, by what is wrong with it
abbrev pub bad_strata : (sphere : ℕ) → Fault → Refused
bad_strata i fault = record { why = Refusal.Grammar; line = bad_strata_line i fault.number fault.offset }

abbrev pub strata_refused : (sphere number commit : ℕ) → Refused
strata_refused i number commit = record { why = Refusal.Grammar; line = bad_strata_line i number commit }

abbrev pub mode_named : Mode → ModeName
mode_named Mode.OrderSize = ModeName.OrderSize
mode_named Mode.OrderOnly = ModeName.OrderOnly
mode_named Mode.Picolog = ModeName.Picolog

abbrev pub epoch_setup : EpochValues → EpochSetup
epoch_setup values = record { size = values.size; keep = values.keep }

-- in what version and mode a sphere is recorded, and in which epochs
abbrev pub record_setup : RecordInputs → RecordSetup
record_setup inputs =
    record {
      version = inputs.version;
      mode = mode_named inputs.mode;
      epochs = option_map epoch_setup inputs.epochs;
    }

-- which commits of a good log are replayed
abbrev pub replay_setup : ReplayInputs → LogParts → ReplaySetup
replay_setup inputs log = record { log = log; interval = interval_of inputs.from inputs.to log.count; strata = None }

-- strata with this answer of their check on the sphere's image: they are replayed if they are parallel
abbrev pub role_in_strata : (i : ℕ) → StrataParts → StrataAnswer → Result RoleSetup Refused
role_in_strata i v Parallel = Ok (IsReplayed (in_strata v))
role_in_strata i v (Conflict commit) = Err (strata_refused i 8 commit)
role_in_strata i v (Unfit commit) = Err (strata_refused i 9 commit)

abbrev pub role_of : (i : ℕ) → Image → RoleRead → Result RoleSetup Refused
role_of i image PlainRead = Ok IsPlain
role_of i image (RecordRead inputs) = Ok (IsRecorded (record_setup inputs))
role_of i image (ReplayRead inputs) =
    refusing (bad_log i) inputs.log >> λ log.
    Ok (IsReplayed (replay_setup inputs log))
role_of i image (StrataRead read) =
    refusing (bad_strata i) read >> λ v.
    role_in_strata i v (answer_of v image.bytes image.entry)

abbrev pub sphere_of : (i : ℕ) → SphereRead → Image → Result SphereSetup Refused
sphere_of i s image = role_of i image s.role >> λ role. Ok (record { memory = image.bytes; entry = image.entry; role = role })

abbrev pub spheres_of : (i : ℕ) → List SphereRead → List Image → Result (List SphereSetup) Refused
spheres_of i (s ∷ ss) (image ∷ images) =
    sphere_of i s image >> λ sphere.
    spheres_of (suc i) ss images >> λ spheres.
    Ok (sphere ∷ spheres)
spheres_of i _ _ = Ok []

-- ---- events: those of the script, or so many that are drawn from the plan's seed

abbrev pub bad_script : (number : ℕ) → Refused
bad_script number = record { why = Refusal.Grammar; line = script_line number }

abbrev pub events_of : (seed : ℕ) → ScheduleRead → Result (List Event) Refused
events_of seed (ScriptRead script) = refusing bad_script script
events_of seed (EventsDrawn n) = Ok (schedule n (seeded seed))

-- ---- the machine's setup

abbrev pub numbers_of : Sizes → Numbers
numbers_of s = record { s = s.chunk; capacity = s.buffer; bits = s.signature; depth = s.depth }

abbrev pub setup_of : PlanValues → (input : List ℕ) → List SphereSetup → Setup
setup_of p input spheres =
    record {
      cores = p.sizes.cores;
      window = p.sizes.window;
      numbers = numbers_of p.sizes;
      seed = p.sizes.seed;
      input = input;
      spheres = spheres;
    }
