-- A command that runs a plan has something to do exactly where the plan has a task, and this is then run.
use Rattle.std.specs.Prelude.{◌≡◌, ℕ, List, Some}
use Rattle.dl_files.specs.Contents.{Contents}
use Rattle.dl_words.specs.Commands.{Run, command_of}
use Rattle.spec_protocol.specs.machine.Serial.{serial_start, CanDoAll}
use Rattle.spec_program.specs.Asked.{outcome_of}
use Rattle.spec_program.specs.Outcomes.{DoesFinish}
use Rattle.spec_program.specs.Runs.{ran}
use Rattle.spec_program.specs.Tasks.{Task, IsTask, setup_in, points_in}

-- its outcome is that of running the task, and each of the task's points can be done whole, as it says
pub record IsRun (words : List (List ℕ)) (m : Contents) (t : Task) : Type 0 where
  pub outcome : outcome_of words m ≡ ran t.plan (setup_in t) t.events
  pub possible : CanDoAll (serial_start (setup_in t)) (points_in t)

-- for all words that run a plan, and whatever the files hold
pub record TasksAreRun : Type 0 where
  -- what has a task is run
  pub run : (words : List (List ℕ)) (m : Contents) (plan : List ℕ) (t : Task)
      → command_of words ≡ Some (Run plan)
      → IsTask plan m t
      → IsRun words m t
  -- what isn't refused has a task
  pub finishing : (words : List (List ℕ)) (m : Contents) (plan : List ℕ)
      → command_of words ≡ Some (Run plan)
      → DoesFinish (outcome_of words m)
      → (t : Task) × IsTask plan m t
