-- What a plan asks for, and what is true of it.
use Rattle.std.specs.Prelude.{◌≡◌, ℕ, ◌<◌, ◌≤◌, ◌%◌, ◌^◌, ⊤, IsTrue, List, map, length, string_bytes, Option, Some, None, IfSome, option_map}
use Rattle.std.specs.List.{AllByRecursion}
use Rattle.dl_plan.specs.declared.plan.Epochs.{Epochs}
use Rattle.dl_plan.specs.declared.plan.Mode.{Mode}
use Rattle.dl_plan.specs.declared.plan.Plan.{Plan}
use Rattle.dl_plan.specs.declared.plan.Role.{Role}
use Rattle.dl_plan.specs.declared.plan.Schedule.{Schedule}
use Rattle.dl_plan.specs.declared.plan.Sizes.{Sizes}
use Rattle.dl_plan.specs.declared.plan.Sphere.{Sphere}
use Rattle.dl_plan.specs.Limits.{is_signature, longest_chunk}

-- where the events come from: a script of that name, or so many that are drawn from the plan's seed
pub data ScheduleValues : Type 0 where
  Script : (name : List ℕ) → ScheduleValues
  Seeded : (events : ℕ) → ScheduleValues

-- how many commits an epoch of a recording has, and how many epochs are kept
pub record EpochValues : Type 0 where
  pub size : ℕ
  pub keep : ℕ

-- of what is recorded, the mode, the version and the name of the log, and its epochs, if it is recorded in epochs
pub record RecordValues : Type 0 where
  pub mode : Mode
  pub version : ℕ
  pub log : List ℕ
  pub epochs : Option EpochValues

-- of what is replayed, the name of the log, and from which of its commits up to which, if the plan says
pub record ReplayValues : Type 0 where
  pub log : List ℕ
  pub from : Option ℕ
  pub to : Option ℕ

-- what a sphere does: it runs plainly, is recorded, replays a log, or replays strata, whose name this is
pub data RoleValues : Type 0 where
  Plain : RoleValues
  Record : RecordValues → RoleValues
  Replay : ReplayValues → RoleValues
  InStrata : (strata : List ℕ) → RoleValues

pub record SphereValues : Type 0 where
  pub image : List ℕ
  pub memory : ℕ
  pub role : RoleValues
  pub account : Option (List ℕ)

-- a plan, with its names as bytes
pub record PlanValues : Type 0 where
  pub sizes : Sizes
  pub schedule : ScheduleValues
  pub input : Option (List ℕ)
  pub console : Option (List ℕ)
  pub report : Option (List ℕ)
  pub spheres : List SphereValues

-- ---- what a `Plan` of the program holds

abbrev pub schedule_view : Schedule → ScheduleValues
schedule_view (Schedule.Script name) = Script (string_bytes name)
schedule_view (Schedule.Seeded events) = Seeded events

abbrev pub epochs_view : Epochs → EpochValues
epochs_view e = record { size = e.size; keep = e.keep }

abbrev pub role_view : Role → RoleValues
role_view Role.Plain = Plain
role_view (Role.Record mode version log epochs) =
    Record (record { mode = mode; version = version; log = string_bytes log; epochs = option_map epochs_view epochs })
role_view (Role.Replay log from to) = Replay (record { log = string_bytes log; from = from; to = to })
role_view (Role.InStrata strata) = InStrata (string_bytes strata)

abbrev pub sphere_view : Sphere → SphereValues
sphere_view s = record { image = string_bytes s.image; memory = s.memory; role = role_view s.role; account = option_map string_bytes s.account }

abbrev pub plan_view : Plan → PlanValues
plan_view p = record {
  sizes = p.sizes;
  schedule = schedule_view p.schedule;
  input = option_map string_bytes p.input;
  console = option_map string_bytes p.console;
  report = option_map string_bytes p.report;
  spheres = map sphere_view p.spheres.items;
}

-- ---- what is true of it

-- a memory's bytes are in their limits
pub record IsMemory (n : ℕ) : Type 0 where
  pub within : (4096 ≤ n) × (n ≤ 2 ^ 24)
  pub paged : n % 4096 ≡ 0

-- the cores, the instructions of a chunk, the words of a buffer, the commits in flight, the chunks of a core, the bits of a
-- signature and the seed
pub record AreSizes (s : Sizes) : Type 0 where
  pub cores : (1 ≤ s.cores) × (s.cores ≤ 8)
  pub chunk : (16 ≤ s.chunk) × (s.chunk ≤ 65536)
  pub buffer : (1 ≤ s.buffer) × (s.buffer ≤ 4096)
  pub window : (1 ≤ s.window) × (s.window ≤ 8)
  pub depth : (1 ≤ s.depth) × (s.depth ≤ 2)
  pub signature : IsTrue (is_signature s.signature)
  pub seed : s.seed < 2 ^ 63

-- the events that are drawn are in their limits
abbrev pub IsSchedule : ScheduleValues → Type 0
IsSchedule (Script name) = ⊤
IsSchedule (Seeded events) = events ≤ 2 ^ 24

-- the memory of each sphere is in its limits
abbrev pub AreMemories : List SphereValues → Type 0
AreMemories spheres = AllByRecursion (λ (s : SphereValues). IsMemory s.memory) spheres

-- a number of commits is in its limits
abbrev pub IsCount : Option ℕ → Type 0
IsCount count = IfSome count (λ n. n ≤ 2 ^ 24)

-- an epoch has 1 to 2^24 commits, and 1 to 64 epochs are kept
pub record AreEpochs (e : EpochValues) : Type 0 where
  pub size : (1 ≤ e.size) × (e.size ≤ 2 ^ 24)
  pub keep : (1 ≤ e.keep) × (e.keep ≤ 64)

-- the version and the epochs of what is recorded, and the commits of what is replayed, are in their limits
abbrev pub IsRole : RoleValues → Type 0
IsRole Plain = ⊤
IsRole (Record values) = (1 ≤ values.version) × (values.version ≤ 2) × IfSome values.epochs AreEpochs
IsRole (Replay values) = IsCount values.from × IsCount values.to
IsRole (InStrata strata) = ⊤

abbrev pub AreRoles : List SphereValues → Type 0
AreRoles spheres = AllByRecursion (λ (s : SphereValues). IsRole s.role) spheres

-- the log of what is recorded can have chunks of this length
abbrev pub CanHave : (chunk : ℕ) → RoleValues → Type 0
CanHave chunk Plain = ⊤
CanHave chunk (Record values) = chunk ≤ longest_chunk values.version
CanHave chunk (Replay values) = ⊤
CanHave chunk (InStrata strata) = ⊤

abbrev pub CanAllHave : (chunk : ℕ) → List SphereValues → Type 0
CanAllHave chunk spheres = AllByRecursion (λ (s : SphereValues). CanHave chunk s.role) spheres

-- what is replayed ends no earlier than it begins
abbrev pub AreOrdered : (from to : Option ℕ) → Type 0
AreOrdered None to = ⊤
AreOrdered (Some from) None = ⊤
AreOrdered (Some from) (Some to) = from ≤ to

abbrev pub IsOrdered : RoleValues → Type 0
IsOrdered Plain = ⊤
IsOrdered (Record values) = ⊤
IsOrdered (Replay values) = AreOrdered values.from values.to
IsOrdered (InStrata strata) = ⊤

abbrev pub AreAllOrdered : List SphereValues → Type 0
AreAllOrdered spheres = AllByRecursion (λ (s : SphereValues). IsOrdered s.role) spheres

-- what is recorded in epochs has a log of version 2
abbrev pub CanBeInEpochs : RoleValues → Type 0
CanBeInEpochs Plain = ⊤
CanBeInEpochs (Record values) = IfSome values.epochs (λ e. values.version ≡ 2)
CanBeInEpochs (Replay values) = ⊤
CanBeInEpochs (InStrata strata) = ⊤

abbrev pub CanAllBeInEpochs : List SphereValues → Type 0
CanAllBeInEpochs spheres = AllByRecursion (λ (s : SphereValues). CanBeInEpochs s.role) spheres

-- each number of a plan is in its limits
pub record AreNumbers (p : PlanValues) : Type 0 where
  pub sizes : AreSizes p.sizes
  pub schedule : IsSchedule p.schedule
  pub spheres : (1 ≤ length p.spheres) × (length p.spheres ≤ 8)
  pub memories : AreMemories p.spheres
  pub roles : AreRoles p.spheres

-- each log that is written can have the plan's chunks, each replay is in order, and epochs are those of version 2
pub record IsPlan (p : PlanValues) : Type 0 where
  pub numbers : AreNumbers p
  pub chunk : CanAllHave p.sizes.chunk p.spheres
  pub order : AreAllOrdered p.spheres
  pub epochs : CanAllBeInEpochs p.spheres
