-- Where a test's replays begin.
use Rattle.std.specs.Prelude.{◌≡◌}
use Rattle.spec_log.specs.declared.LogParts.{LogParts}
use Rattle.spec_play.specs.States.{state_after}
use Rattle.dl_kernel.specs.States.{PlayState as State, state_in}

-- the state is that of any log's play before the first commit, with entry 0
abbrev pub IsFirst : State → Type 0
IsFirst s = (log : LogParts) → state_in s ≡ state_after log s.memory 0 0
