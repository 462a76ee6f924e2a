-- The state in which an epoch begins, as the code has it.
use Rattle.std.specs.Prelude.{ℕ, List}
use Rattle.spec_play.specs.Progress.{nothing_used}
use Rattle.dl_kernel.specs.States.{PlayState}

-- a state with this memory, which uses no log
abbrev pub state_over : (memory : List ℕ) → PlayState → PlayState
state_over m s = record s { memory = m; used = nothing_used }
