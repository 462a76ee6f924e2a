-- What a walk leaves, as the code keeps it.
use Rattle.std.specs.Prelude.{ℕ, ◌-◌, List}
use Rattle.spec_log.specs.declared.LogParts.{LogParts}
use Rattle.spec_play.specs.Plays.{plays}
use Rattle.spec_play.specs.States.{State, resumed, state_of}
use Rattle.spec_play.specs.Walks as play
use Rattle.spec_query.specs.declared.Store.{Store}
use Rattle.spec_query.specs.Stores.{stores}
use Rattle.dl_serial.specs.declared.walked.Walked.{Walked}

abbrev pub walked_in : Walked → play.Walked
walked_in w =
    record {
      commits = w.commits;
      threads = w.state.threads;
      memory = w.state.memory;
      request = w.state.request;
      end = w.end;
    }

-- of a walk from a state, until `to` commits of the log are done: the stores of its commits, and the state after them
abbrev pub stores_from : LogParts → State → (to : ℕ) → List Store
stores_from log s to = stores log (resumed log s) (to - s.commits)

abbrev pub state_from : LogParts → State → (to : ℕ) → State
state_from log s to = state_of (plays log (resumed log s) (to - s.commits))
