-- How the stages of a command follow one another: each makes something, or tells why it doesn't, and then none follows.
use Rattle.std.specs.Prelude.{ℕ, List, Result, Ok, Err}
use Rattle.spec_program.specs.declared.status.Refusal.{Refusal}

infixl 10 ◌>>◌
abbrev pub ◌>>◌ : {A B E : Type 0} → Result A E → (A → Result B E) → Result B E
Err e >> next = Err e
Ok a >> next = next a

-- why a command is refused, and the line that says so
pub record Refused : Type 0 where
  pub why : Refusal
  pub line : List ℕ

-- a stage, whose faults are said as refusals
abbrev pub refusing : {A E : Type 0} → (E → Refused) → Result A E → Result A Refused
refusing as_refused (Ok a) = Ok a
refusing as_refused (Err e) = Err (as_refused e)
