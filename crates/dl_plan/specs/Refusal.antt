-- When a plan is refused.
use Rattle.std.specs.Prelude.{◌≡◌, ℕ, Option, None, Result, Err, ⊤}
use Rattle.dl_plan.specs.declared.error.PlanError.{PlanError}
use Rattle.dl_plan.specs.declared.error.PlanError.TheVariants.{Refused, OutOfMemory}

-- a refusal has the number of the broken rule; if memory runs out, nothing is said
abbrev pub Says : {A : Type 0} → Result A ℕ → PlanError → Type 0
Says sought (Refused rule) = sought ≡ Err rule
Says sought OutOfMemory = ⊤

-- a refusal by this rule says that there is no such thing; if memory runs out, nothing is said
abbrev pub IsBroken : {A : Type 0} → ℕ → Option A → PlanError → Type 0
IsBroken broken sought (Refused rule) = (rule ≡ broken) × (sought ≡ None)
IsBroken broken sought OutOfMemory = ⊤
