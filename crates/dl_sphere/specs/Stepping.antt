-- A serial step that real devices answer.
use Rattle.std.specs.Prelude.{ℕ}
use Rattle.dl_entry.specs.declared.Commit.{Commit}
use Rattle.spec_kernel.specs.Devices.{Devices}
use Rattle.spec_kernel.specs.Needs.{need}
use Rattle.spec_kernel.specs.Answers.{Taken, taken}
use Rattle.spec_kernel.specs.Serving.{StepResult, serve}
use Rattle.spec_play.specs.Effects.{serial_commit}
use Rattle.dl_kernel.specs.declared.serving.Step.{Step}
use Rattle.dl_sphere.specs.declared.part.Part.{Part}
use Rattle.dl_sphere.specs.Roles.{keeping_of, most_of}

-- what comes from outside for it at a moment
abbrev pub taken_by : Step → Devices → (moment : ℕ) → Taken
taken_by s d moment = taken (need s.thread s.memory.now) d moment

-- what it does in a sphere with this part, which says how many threads it may have
abbrev pub served_by : Part → Step → Devices → (moment : ℕ) → StepResult
served_by part s d moment = serve (most_of (keeping_of part)) s.number s.threads.now s.request s.thread s.memory.now (taken_by s d moment).input

abbrev pub commit_by : Part → Step → Devices → (moment : ℕ) → Commit
commit_by part s d moment = let v = served_by part s d moment in serial_commit s.number v.loads v.outputs
