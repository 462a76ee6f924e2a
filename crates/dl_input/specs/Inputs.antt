-- Inputs in the order of commits.
use Rattle.std.specs.Prelude.{ℕ, ◌+◌, nat_lt, Bool, List, length, if◌then◌else◌}
use Rattle.dl_entry.specs.declared.input.Input.{Input}

-- the inputs, how many of them were taken, and whether there is room for one more
pub record InputList : Type 0 where
  pub inputs : List Input
  pub taken : ℕ
  pub room : Bool

-- how many are taken once one more is, if there is one
abbrev pub one_taken : InputList → ℕ
one_taken list = if nat_lt list.taken (length list.inputs) then list.taken + 1 else list.taken
