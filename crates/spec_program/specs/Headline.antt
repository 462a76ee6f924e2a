-- The headline. What is done is the task that the plan and the files give, and every byte that it leaves is a function of
-- that task: the machine's commits can be executed whole, one at a time, in the order of its points; the accounts and logs
-- of plain and recorded spheres, the console, the report and the summary tell that execution; and the account of a replayed
-- sphere tells the play of its log on its image, and nothing else.
use Rattle.std.specs.Prelude.{◌≡◌, ℕ, List, Option, Some, if◌then◌else◌}
use Rattle.dl_files.specs.Contents.{Contents}
use Rattle.spec_protocol.specs.machine.Serial.{serial_start, CanDoAll}
use Rattle.spec_protocol.specs.promises.Sound.{IsWithinLimits}
use Rattle.spec_run.specs.Runs.{diverges}
use Rattle.spec_run.specs.Texts.{summary_text}
use Rattle.spec_program.specs.declared.status.Status.{Status}
use Rattle.spec_program.specs.Accepted.{AreAccepted}
use Rattle.spec_program.specs.Ends.{TookAll}
use Rattle.spec_program.specs.Runs.{writes_for}
use Rattle.spec_program.specs.Tasks.{Task, IsTask, setup_in, points_in}
use Rattle.spec_program.specs.Writes.{written}

-- of `run PLAN` over files that held m: what the files then tell, what the sink had taken and now has, and the status
pub record Headline (plan : List ℕ) (m : Contents) (known : Option Contents) (old new : Option (List ℕ)) (s : Status) : Type 0 where
  -- the plan, the files that it has read, its spheres and its schedule are those that this plan and the files give
  pub task : Task
  pub asked : IsTask plan m task
  -- its numbers, images and logs are within the limits of the machine, so that all that is promised of runs is so of it
  pub limits : IsWithinLimits (setup_in task)
  -- each point of a plain or a recorded sphere can be done whole, as it says: a chunk runs its instructions, and a serial step
  -- is one
  pub possible : CanDoAll (serial_start (setup_in task)) (points_in task)
  -- each file of the plan holds what is made of the points and of executing them, or of a replayed log; every other file
  -- holds what it held
  pub files : known ≡ Some (written (writes_for task.plan (setup_in task) task.events) m)
  -- each tail among them is one that `tail` accepts: its play is complete, and has the account of its sphere, byte for byte
  pub tails : AreAccepted task
  -- the sink took the summary
  pub output : TookAll (summary_text (setup_in task) task.events) old new
  -- the status says whether a replayed log diverges from its image
  pub status : s ≡ (if diverges (setup_in task).spheres then Status.Diverged else Status.Done)
