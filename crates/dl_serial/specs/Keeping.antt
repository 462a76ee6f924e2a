-- The states that are kept of a log's play on an image.
use Rattle.std.specs.Prelude.{◌≡◌, ℕ, ◌*◌, ◌<◌, List, length, slice_get, Some}
use Rattle.spec_log.specs.declared.LogParts.{LogParts}
use Rattle.spec_play.specs.States.{state_after}
use Rattle.spec_play.specs.Resuming.{HasDone}
use Rattle.dl_kernel.specs.States.{PlayState as State, state_in}

-- the n-th is that after n times so many commits, and there is one for each such number of commits that the play does
pub record AreKept (log : LogParts) (memory : List ℕ) (entry every : ℕ) (kept : List State) : Type 0 where
  pub each : (n : ℕ) (s : State) → slice_get kept n ≡ Some s → state_in s ≡ state_after log memory entry (n * every)
  pub done : (n : ℕ) → n < length kept → HasDone log memory entry (n * every)
  pub all : (n : ℕ) → HasDone log memory entry (n * every) → n < length kept
