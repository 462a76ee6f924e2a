-- A play that is resumed from a state, and the play that the state is of.
use Rattle.std.proofs.Common.{◌≡◌, ℕ, ◌+◌, ◌-◌, ◌≤◌, List, refl, sym, ap, ◌∙◌, subst, arith}
use Rattle.spec_log.specs.declared.LogParts.{LogParts}
use Rattle.spec_play.specs.Plays.{opened, plays}
use Rattle.spec_play.specs.States.{State, resumed, state_after, walked_from}
use Rattle.spec_play.specs.Resuming.{IsStateOf}
use Rattle.spec_play.specs.Walks.{walked, walked_at}
use Rattle.spec_play.proofs.Bounds.{states_are_bounded}
use Rattle.spec_query.specs.Stores.{stores, stores_in}
use Rattle.dl_serial.specs.Starts.{CanGoOn}
use Rattle.dl_serial.specs.Walked.{state_from, stores_from}
use Rattle.dl_serial.proofs.Requests.{state-request}

-- a state of the log's play is one from which it can go on
pub can-go-on : (log : LogParts) (s : State) → IsStateOf log s → CanGoOn log s
can-go-on log s is = record { bounded = states_are_bounded log s is; request = state-request log s is }

-- ---- before the first commit

-- the state before the first commit is one of the log's play
pub first-state : (log : LogParts) (memory : List ℕ) (entry : ℕ) (s : State) → s ≡ state_after log memory entry 0 → IsStateOf log s
first-state log memory entry s is = record { memory = memory; entry = entry; commits = 0; done = refl; state = is }

none_before : (to : ℕ) → to - 0 ≡ to
none_before to = omega arith

-- a walk from before the first commit is the walk of the log on its image
pub first-walked : (log : LogParts) (memory : List ℕ) (entry to : ℕ) (s : State) → s ≡ state_after log memory entry 0 → walked_from log s to ≡ walked log memory entry to
first-walked log memory entry to s is =
    ap (λ (x : State). walked_from log x to) is ∙ ap (λ (n : ℕ). walked_at log to (plays log (opened log memory entry) n)) (none_before to)

-- the stores of a walk from before the first commit are those of the log on its image
pub first-stores : (log : LogParts) (memory : List ℕ) (entry to : ℕ) (s : State) → s ≡ state_after log memory entry 0 → stores_from log s to ≡ stores_in log memory entry to
first-stores log memory entry to s is =
    ap (λ (x : State). stores_from log x to) is ∙ ap (λ (n : ℕ). stores log (opened log memory entry) n) (none_before to)

-- a walk from before the first commit leaves the play's state after so many commits
pub first-left : (log : LogParts) (memory : List ℕ) (entry to : ℕ) (s : State) → s ≡ state_after log memory entry 0 → state_from log s to ≡ state_after log memory entry to
first-left log memory entry to s is =
    ap (λ (x : State). state_from log x to) is ∙ ap (λ (n : ℕ). state_after log memory entry n) (none_before to)
