-- The form of a line, by what is refused, whatever the files hold.
use Rattle.std.specs.Prelude.{◌≡◌, ◌⊎◌, ℕ, List}
use Rattle.spec_program.specs.declared.status.Refusal.{Refusal}
use Rattle.spec_program.specs.Lines.{usage_line, plan_line, image_line, log_line, bad_strata_line, script_line, source_line, absent_line}

abbrev pub IsLineOf : Refusal → (line : List ℕ) → Type 0
IsLineOf Refusal.Usage line = line ≡ usage_line
IsLineOf Refusal.Plan line = (rule : ℕ) × (line ≡ plan_line rule)
IsLineOf Refusal.Image line = (sphere : ℕ) × (rule : ℕ) × (line ≡ image_line sphere rule)
IsLineOf Refusal.Grammar line =
    ((sphere : ℕ) × (number : ℕ) × (offset : ℕ) × (line ≡ log_line sphere number offset))
    ⊎ ((number : ℕ) × (line ≡ script_line number))
    ⊎ ((sphere : ℕ) × (number : ℕ) × (at : ℕ) × (line ≡ bad_strata_line sphere number at))
IsLineOf Refusal.Source line = (number : ℕ) × (rule : ℕ) × (line ≡ source_line number rule)
IsLineOf Refusal.Absent line = (name : List ℕ) × (line ≡ absent_line name)
