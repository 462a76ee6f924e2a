-- What a plan asks for, as the files say it.
use Rattle.std.specs.Prelude.{◌≡◌, ℕ, List, Result, Ok}
use Rattle.dl_entry.specs.declared.Point.{Point}
use Rattle.dl_files.specs.Contents.{Contents}
use Rattle.dl_plan.specs.Plans.{plan_of}
use Rattle.dl_plan.specs.Values.{PlanValues}
use Rattle.spec_protocol.specs.declared.event.Event.{Event}
use Rattle.spec_sphere.specs.sphere.Setups.{SphereSetup}
use Rattle.spec_protocol.specs.machine.Machine.{Setup}
use Rattle.spec_run.specs.Runs.{points_of}
use Rattle.spec_program.specs.declared.status.Refusal.{Refusal}
use Rattle.spec_program.specs.Built.{images_of, spheres_of, events_of, setup_of}
use Rattle.spec_program.specs.Files.{PlanRead, read_at, plan_read}
use Rattle.spec_program.specs.Lines.{plan_line, absent_line}
use Rattle.spec_program.specs.Stages.{Refused, refusing, ◌>>◌}

-- a plan, the files that it has read, the spheres of its machine, and its schedule
pub record Task : Type 0 where
  pub plan : PlanValues
  pub read : PlanRead
  pub spheres : List SphereSetup
  pub events : List Event

-- the setup of the task's machine, and the serialisation points of its run
abbrev pub setup_in : Task → Setup
setup_in t = setup_of t.plan t.read.input t.spheres

abbrev pub points_in : Task → List Point
points_in t = points_of (setup_in t) t.events

-- ---- the stages, the last first

-- once each file is read: the images, then the logs, then the script
abbrev pub task_read : PlanValues → PlanRead → Result Task Refused
task_read p read =
    images_of 0 read.spheres >> λ images.
    spheres_of 0 read.spheres images >> λ spheres.
    events_of p.sizes.seed read.schedule >> λ events.
    Ok (record { plan = p; read = read; spheres = spheres; events = events })

abbrev pub absent : (name : List ℕ) → Refused
absent name = record { why = Refusal.Absent; line = absent_line name }

abbrev pub task_planned : Contents → PlanValues → Result Task Refused
task_planned m p = refusing absent (plan_read m p) >> task_read p

abbrev pub bad_plan : (rule : ℕ) → Refused
bad_plan rule = record { why = Refusal.Plan; line = plan_line rule }

-- the plan in the file of that name
abbrev pub plan_at : Contents → (name : List ℕ) → Result PlanValues Refused
plan_at m name = refusing absent (read_at m name) >> λ bytes. refusing bad_plan (plan_of name bytes)

-- what the plan in the file of that name asks for over these files, or why that is refused
abbrev pub task_named : Contents → (name : List ℕ) → Result Task Refused
task_named m name = plan_at m name >> task_planned m

-- the plan of that name and the files give this task
abbrev pub IsTask : (plan : List ℕ) → Contents → Task → Type 0
IsTask plan m t = task_named m plan ≡ Ok t
