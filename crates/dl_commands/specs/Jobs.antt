-- What is left to be done, once it is computed.
use Rattle.std.specs.Prelude.{◌≡◌, ℕ, Bool, true, false, List, map, string_bytes, Result, Ok, Err}
use Rattle.dl_plan.specs.Values.{PlanValues}
use Rattle.spec_log.specs.Bytes.{log_bytes}
use Rattle.spec_protocol.specs.declared.event.Event.{Event}
use Rattle.spec_protocol.specs.machine.Machine.{Setup}
use Rattle.spec_protocol.specs.promises.Sound.{IsWithinLimits}
use Rattle.spec_run.specs.Runs.{diverges}
use Rattle.spec_run.specs.Texts.{summary_text}
use Rattle.spec_program.specs.Accepted.{AreReadAgain}
use Rattle.spec_program.specs.commands.Drill as drill
use Rattle.spec_program.specs.Outcomes.{Finish, Outcome}
use Rattle.spec_program.specs.Runs.{writes_for}
use Rattle.spec_program.specs.Stages.{Refused}
use Rattle.spec_program.specs.Tasks.{Task, setup_in}
use Rattle.spec_program.specs.Writes.{Write}
use Rattle.dl_gather.specs.declared.halt.Halt.{Halt}
use Rattle.dl_commands.specs.declared.job.Job.{Job}
use Rattle.dl_commands.specs.declared.writing.Content.{Content}
use Rattle.dl_commands.specs.declared.writing.NamedContent.{NamedContent}

-- the bytes that a file is to hold
abbrev pub bytes_in : Content → List ℕ
bytes_in (Content.Bytes bytes) = bytes.items
bytes_in (Content.Log log) = log_bytes log

-- logs are written in pieces
abbrev pub is_in_pieces : Content → Bool
is_in_pieces (Content.Bytes bytes) = false
is_in_pieces (Content.Log log) = true

abbrev pub write_of : NamedContent → Write
write_of w = record { name = string_bytes w.name; bytes = bytes_in w.content; in_pieces = is_in_pieces w.content }

abbrev pub writes_of : List NamedContent → List Write
writes_of ws = map write_of ws

-- what a job writes and says
abbrev pub finish_of : Job → Finish
finish_of job = record { diverged = job.diverged; writes = writes_of job.writes.items; text = job.text.items }

-- the outcome is to do the job
abbrev pub IsJobOf : Outcome → Job → Type 0
IsJobOf outcome job = outcome ≡ Ok (finish_of job)

-- what the run of that schedule comes to, on a machine within its limits
pub record IsRunOf (p : PlanValues) (s : Setup) (es : List Event) (job : Job) : Type 0 where
  pub limits : IsWithinLimits s
  pub writes : writes_of job.writes.items ≡ writes_for p s es
  pub tails : AreReadAgain p s es
  pub text : job.text.items ≡ summary_text s es
  pub diverged : job.diverged ≡ diverges s.spheres

-- there is a task, and this is what its run comes to
abbrev pub IsTaskJob : Result Task Refused → Job → Type 0
IsTaskJob task job = (t : Task) × (task ≡ Ok t) × IsRunOf t.plan (setup_in t) t.events job

-- the drill of that number is computed, or memory ran out
abbrev pub IsDrill : (number : ℕ) → Result Job Halt → Type 0
IsDrill number (Ok job) = finish_of job ≡ drill.finish number
IsDrill number (Err halt) = halt ≡ Halt.OutOfMemory
