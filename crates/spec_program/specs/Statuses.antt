-- The numbers of the ends of the program.
use Rattle.std.specs.Prelude.{ℕ}
use Rattle.spec_program.specs.declared.status.Status.{Status}
use Rattle.spec_program.specs.declared.status.Refusal.{Refusal}

abbrev pub code_of : Status → ℕ
code_of Status.Done = 0
code_of Status.Diverged = 1
code_of Status.Usage = 2
code_of Status.Plan = 3
code_of Status.Image = 4
code_of Status.Grammar = 5
code_of Status.Fault = 6
code_of Status.Sink = 7
code_of Status.Memory = 8
code_of Status.Source = 9
code_of Status.Absent = 10

abbrev pub status_of : Refusal → Status
status_of Refusal.Usage = Status.Usage
status_of Refusal.Plan = Status.Plan
status_of Refusal.Image = Status.Image
status_of Refusal.Grammar = Status.Grammar
status_of Refusal.Source = Status.Source
status_of Refusal.Absent = Status.Absent
