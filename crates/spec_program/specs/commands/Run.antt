-- `run PLAN`: the task of a plan is run.
use Rattle.std.specs.Prelude.{ℕ, List, [], ◌∷◌, Result, Ok, Err}
use Rattle.dl_files.specs.Contents.{Contents}
use Rattle.dl_plan.specs.Files.{input_names}
use Rattle.dl_plan.specs.Values.{PlanValues}
use Rattle.spec_protocol.specs.promises.Sound.{IsWithinLimits}
use Rattle.spec_program.specs.Accepted.{AreReadAgain}
use Rattle.spec_program.specs.Outcomes.{Finish}
use Rattle.spec_program.specs.Runs.{ran}
use Rattle.spec_program.specs.Stages.{Refused, ◌>>◌}
use Rattle.spec_program.specs.Tasks.{Task, IsTask, plan_at, setup_in, task_named}

-- the names that a plan has read; of one that is absent or refused none is read
abbrev pub inputs_of : Result PlanValues Refused → List (List ℕ)
inputs_of (Err refused) = []
inputs_of (Ok p) = input_names p

-- in the order of the work: the plan, and then the names that it has read
abbrev pub reads : Contents → (plan : List ℕ) → List (List ℕ)
reads m plan = plan ∷ inputs_of (plan_at m plan)

abbrev pub outcome : Contents → (plan : List ℕ) → Result Finish Refused
outcome m plan = task_named m plan >> λ t. ran t.plan (setup_in t) t.events

-- it has a task, whose machine is within its limits, and the tails that its run writes are read again
abbrev pub HasRun : (plan : List ℕ) → Contents → Type 0
HasRun plan m = (t : Task) × IsTask plan m t × IsWithinLimits (setup_in t) × AreReadAgain t.plan (setup_in t) t.events
