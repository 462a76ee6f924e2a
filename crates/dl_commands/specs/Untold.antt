-- What a command may come to, whatever its files tell: as if they held what they tell, or if they tell nothing, some contents.
use Rattle.std.specs.Prelude.{◌≡◌, ◌⊎◌, ℕ, List, [], ◌∷◌, map, Option, None, Some, Result, Ok, Err}
use Rattle.dl_files.specs.Contents.{Contents}
use Rattle.dl_plan.specs.Files.{written_names}
use Rattle.dl_plan.specs.Values.{PlanValues}
use Rattle.dl_words.specs.Commands.{CommandValues, Run, Inspect, Walk, Query, Interval, Tail, Make, Drill, Asm, Migrate, Strata, command_of}
use Rattle.spec_log.specs.declared.LogParts.{LogParts}
use Rattle.spec_tail.specs.Tails.{Tail as TailParts}
use Rattle.spec_program.specs.declared.status.Refusal.{Refusal}
use Rattle.spec_program.specs.commands.Asm as asm
use Rattle.spec_program.specs.commands.Drill as drill
use Rattle.spec_program.specs.commands.Inspect as inspect
use Rattle.spec_program.specs.commands.Interval as interval
use Rattle.spec_program.specs.commands.Make as make
use Rattle.spec_program.specs.commands.Migrate as migrate
use Rattle.spec_program.specs.commands.Query as query
use Rattle.spec_program.specs.commands.Strata as strata
use Rattle.spec_program.specs.commands.Tail as tail
use Rattle.spec_program.specs.commands.Walk as walk
use Rattle.spec_program.specs.Asked.{reads_of}
use Rattle.spec_program.specs.Files.{PlanRead}
use Rattle.spec_program.specs.Lines.{fault_line}
use Rattle.spec_program.specs.Operands.{PlaybackRead}
use Rattle.spec_program.specs.Outcomes.{Finish}
use Rattle.spec_program.specs.Runs.{ran}
use Rattle.spec_program.specs.Stages.{Refused}
use Rattle.spec_program.specs.Tasks.{Task, plan_at, setup_in, task_read}
use Rattle.spec_program.specs.Writes.{Write}
use Rattle.dl_gather.specs.Forms.{IsLineOf}
use Rattle.dl_gather.specs.Names.{MayHold, IsNamed}

-- ---- the names that are written, in the order of the work

-- those of a plan; of one that is absent or refused none is written
abbrev pub outputs_in : Result PlanValues Refused → List (List ℕ)
outputs_in (Err refused) = []
outputs_in (Ok p) = written_names p

abbrev pub outputs_for : Contents → CommandValues → List (List ℕ)
outputs_for m (Run plan) = outputs_in (plan_at m plan)
outputs_for m (Inspect log) = []
outputs_for m (Walk playback) = []
outputs_for m (Query asked) = []
outputs_for m (Interval asked) = []
outputs_for m (Tail name) = []
outputs_for m (Make number name) = name ∷ []
outputs_for m (Drill number) = []
outputs_for m (Asm source name) = name ∷ []
outputs_for m (Migrate log name) = name ∷ []
outputs_for m (Strata playback name) = name ∷ []

abbrev pub outputs_of_command : Contents → Option CommandValues → List (List ℕ)
outputs_of_command m None = []
outputs_of_command m (Some command) = outputs_for m command

abbrev pub outputs_of : (words : List (List ℕ)) → Contents → List (List ℕ)
outputs_of words m = outputs_of_command m (command_of words)

-- it is one of the names that the words have read or written
abbrev pub IsOwn : (words : List (List ℕ)) → (known : Option Contents) → (name : List ℕ) → Type 0
IsOwn words known name = IsNamed known (reads_of words) name ⊎ IsNamed known (outputs_of words) name

-- ---- what is written and said

-- it is what the run of a task comes to, which the plan has with something that is read for it
pub record IsSomeRun (p : PlanValues) (finish : Finish) : Type 0 where
  pub read : PlanRead
  pub task : Task
  pub asked : task_read p read ≡ Ok task
  pub does : ran p (setup_in task) task.events ≡ Ok finish

-- so of a plan that may be in the file of that name
abbrev pub MayRun : (plan : List ℕ) → (known : Option Contents) → Finish → Type 0
MayRun plan known finish = (p : PlanValues) × MayHold known (λ m. plan_at m plan ≡ Ok p) × IsSomeRun p finish

-- it is what the command comes to, with some log, image and log, tail or source
abbrev pub MayFinish : (known : Option Contents) → CommandValues → Finish → Type 0
MayFinish known (Run plan) f = MayRun plan known f
MayFinish known (Inspect log) f = (parts : LogParts) × (f ≡ inspect.finish parts)
MayFinish known (Walk playback) f = (read : PlaybackRead) × (f ≡ walk.finish read)
MayFinish known (Query asked) f = (read : PlaybackRead) × (f ≡ query.finish asked read)
MayFinish known (Interval asked) f = (read : PlaybackRead) × (f ≡ interval.finish asked read)
MayFinish known (Tail name) f = (parts : TailParts) × (f ≡ tail.finish parts)
MayFinish known (Make number name) f = f ≡ make.finish number name
MayFinish known (Drill number) f = f ≡ drill.finish number
MayFinish known (Asm source name) f = (bytes : List ℕ) × (asm.outcome_in name bytes ≡ Ok f)
MayFinish known (Migrate log name) f = (parts : LogParts) × (f ≡ migrate.finish name parts)
MayFinish known (Strata playback name) f = (read : PlaybackRead) × (f ≡ strata.finish name read)

abbrev pub MayFinishIf : (known : Option Contents) → Option CommandValues → Finish → Type 0
MayFinishIf known None f = ⊥
MayFinishIf known (Some command) f = MayFinish known command f

-- it is the text of what the words may come to, the line of a refusal, or that on the fault of a file of theirs
abbrev pub MaySay : (words : List (List ℕ)) → (known : Option Contents) → (text : List ℕ) → Type 0
MaySay words known text =
    ((f : Finish) × MayFinishIf known (command_of words) f × (text ≡ f.text))
    ⊎ ((why : Refusal) × IsLineOf why text)
    ⊎ ((name : List ℕ) × IsOwn words known name × (text ≡ fault_line name))

-- ---- the names of what is written

abbrev pub names_in : Finish → List (List ℕ)
names_in f = map (λ (w : Write). w.name) f.writes
