-- What is promised of plays that go on from a state.
use Rattle.std.specs.Prelude.{◌≡◌, ℕ, ◌+◌, ◌≤◌, List, ◌++◌, slice_get, Some}
use Rattle.spec_isa.specs.declared.thread.Parts.{Parts}
use Rattle.spec_log.specs.declared.LogParts.{LogParts}
use Rattle.spec_play.specs.Progress.{position}
use Rattle.spec_play.specs.Plays.{Played, opened, plays}
use Rattle.spec_play.specs.States.{State, state_of, state_after, resumed}

abbrev pub PlaysGoOn : Type 0
PlaysGoOn = (log : LogParts) (y : Played) (i j : ℕ) → plays log (plays log y i) j ≡ plays log y (i + j)

-- the play doesn't diverge at one of the first i commits
abbrev pub HasDone : LogParts → (memory : List ℕ) → (entry i : ℕ) → Type 0
HasDone log memory entry i = position (plays log (opened log memory entry) i).progress ≡ i

-- a play is at y and later at z; one that starts at y's state is then at w
pub record IsResumed (y z w : Played) : Type 0 where
  pub state : state_of w ≡ state_of z
  pub now : w.now ≡ z.now
  pub commits : z.progress.commits ≡ y.progress.commits ++ w.progress.commits

-- after i commits, and after j more
abbrev pub PlaysResume : Type 0
PlaysResume =
    (log : LogParts) (memory : List ℕ) (entry i j : ℕ)
    → HasDone log memory entry i
    → let start = opened log memory entry in
    IsResumed (plays log start i) (plays log start (i + j)) (plays log (resumed log (state_after log memory entry i)) j)

-- ---- states of plays

-- after some number of commits of the log's play on some image
pub record IsStateOf (log : LogParts) (s : State) : Type 0 where
  pub memory : List ℕ
  pub entry : ℕ
  pub commits : ℕ
  pub done : HasDone log memory entry commits
  pub state : s ≡ state_after log memory entry commits

-- it has no more commits than its log; no thread has more, and no more interrupts were taken
pub record IsBounded (log : LogParts) (s : State) : Type 0 where
  pub commits : s.commits ≤ log.count
  pub threads : (k : ℕ) (t : Parts) → slice_get s.threads k ≡ Some t → t.commits ≤ s.commits
  pub interrupts : s.used.interrupts ≤ s.commits

abbrev pub StatesAreBounded : Type 0
StatesAreBounded = (log : LogParts) (s : State) → IsStateOf log s → IsBounded log s
