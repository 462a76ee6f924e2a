-- Where a play is between two commits, as the code keeps it.
use Rattle.std.specs.Prelude.{ℕ, List}
use Rattle.spec_play.specs.States as play
use Rattle.dl_kernel.specs.declared.state.State.{State}

-- whether the play goes on from it or it is kept, its memory is seen as the bytes
abbrev pub PlayState : Type 0
PlayState = State (List ℕ)

abbrev pub state_in : PlayState → play.State
state_in s =
    record {
      memory = s.memory;
      threads = s.threads;
      request = s.request;
      last = s.last;
      commits = s.commits;
      used = s.used;
    }
