-- The thread that committed last is the last one among the commits.
use Rattle.std.specs.Prelude.{◌≡◌, ℕ, List}
use Rattle.spec_log.specs.declared.LogParts.{LogParts}
use Rattle.spec_play.specs.Progress.{Progress, last_thread}
use Rattle.spec_play.specs.Plays.{opened, plays}

abbrev pub IsOfCommits : Progress → Type 0
IsOfCommits p = p.last ≡ last_thread p.commits

-- after any number of commits of a play
abbrev pub PlaysKeepLasts : Type 0
PlaysKeepLasts =
    (log : LogParts) (memory : List ℕ) (entry i : ℕ)
    → IsOfCommits (plays log (opened log memory entry) i).progress
