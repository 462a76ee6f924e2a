-- A command that runs a plan and whose outcome finishes has a task, and a task's outcome is that of its run.
use Rattle.std.proofs.Common.{◌≡◌, ℕ, List, Option, Some, Result, Ok, Err, ok_or, refl, ap, ◌∙◌, subst}
use Rattle.dl_files.specs.Contents.{Contents}
use Rattle.dl_words.specs.Commands.{CommandValues, Run, command_of}
use Rattle.spec_run.proofs.Described.{points-possible}
use Rattle.spec_program.specs.Asked.{outcome_for, outcome_of, usage}
use Rattle.spec_program.specs.Outcomes.{DoesFinish, Outcome}
use Rattle.spec_program.specs.Promise.{IsRun}
use Rattle.spec_program.specs.Runs.{ran}
use Rattle.spec_program.specs.Stages.{Refused, ◌>>◌}
use Rattle.spec_program.specs.Tasks.{Task, IsTask, setup_in, task_named}
use Rattle.spec_program.proofs.Able.{task_can_finish}

-- the outcome of words that mean a command is that command's
pub outcome_is : (words : List (List ℕ)) (m : Contents) (command : CommandValues) → command_of words ≡ Some command → outcome_of words m ≡ outcome_for m command
outcome_is words m command asks = ap (λ (c : Option CommandValues). ok_or c usage >> outcome_for m) asks

-- the outcome of a task's run
abbrev run_of : Task → Outcome
run_of t = ran t.plan (setup_in t) t.events

task_there : (o : Result Task Refused) → DoesFinish (o >> run_of) → (t : Task) × (o ≡ Ok t)
task_there (Err refused) f = absurd f
task_there (Ok t) f = (t, refl)

-- a command that runs a plan, and whose outcome finishes, has a task
pub finished_has_task : (words : List (List ℕ)) (m : Contents) (plan : List ℕ) → command_of words ≡ Some (Run plan) → DoesFinish (outcome_of words m) → (t : Task) × IsTask plan m t
finished_has_task words m plan asks f = task_there (task_named m plan) (subst DoesFinish (outcome_is words m (Run plan) asks) f)

-- the outcome of a command that runs a plan is that of its task's run, which is possible
pub task_run : (words : List (List ℕ)) (m : Contents) (plan : List ℕ) (t : Task) → command_of words ≡ Some (Run plan) → IsTask plan m t → IsRun words m t
task_run words m plan t asks is = record {
  outcome = outcome_is words m (Run plan) asks ∙ ap (λ (o : Result Task Refused). o >> run_of) is;
  possible = points-possible (setup_in t) t.events (task_can_finish plan m t is).setup;
}
