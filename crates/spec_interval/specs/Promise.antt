-- What is promised of slices.
use Rattle.std.specs.Prelude.{◌≡◌, ℕ, ◌≤◌, min, List, [], ◌∷◌, ◌++◌, codes, decimal}
use Rattle.dl_account.specs.Account.{account_of}
use Rattle.dl_account.specs.Lines.{line}
use Rattle.dl_entry.specs.declared.End.{End}
use Rattle.dl_entry.specs.declared.Why.{Why}
use Rattle.spec_log.specs.declared.LogParts.{LogParts}
use Rattle.spec_play.specs.Turns.{Ended}
use Rattle.spec_play.specs.Plays.{play}
use Rattle.spec_play.specs.States.{state_after}
use Rattle.spec_play.specs.Resuming.{HasDone}
use Rattle.spec_interval.specs.Slices.{Slice, slice, lines_between, slice_from}

-- from the state after any number of commits, none of them past the slice's first
abbrev pub SlicesResume : Type 0
SlicesResume =
    (log : LogParts) (memory : List ℕ) (entry done i j : ℕ)
    → HasDone log memory entry done
    → done ≤ i
    → i ≤ j
    → slice_from log (state_after log memory entry done) i j ≡ slice log memory entry i j

-- the account of a log's play, if it ended in this way
abbrev pub account : LogParts → (memory : List ℕ) → (entry : ℕ) → End → List ℕ
account log memory entry how =
    let y = play log memory entry in account_of 0 y.progress.commits y.threads y.progress.request y.memory how

-- two texts are the same except for their last line, which says how a slice and how an account end with all commits
pub record AreAlikeButLast (slice account : List ℕ) (count : ℕ) : Type 0 where
  pub body : List ℕ
  pub slice_is : slice ≡ body ++ line (codes "end") (codes "at" ∷ decimal count ∷ [])
  pub account_is : account ≡ body ++ line (codes "end") (codes "complete" ∷ decimal count ∷ [])

pub record IsAccount (log : LogParts) (memory : List ℕ) (entry : ℕ) (s : Slice) : Type 0 where
  pub complete : (count : ℕ) → (play log memory entry).now ≡ Ended (End.Complete count)
      → AreAlikeButLast s.text (account log memory entry (End.Complete count)) count
  pub diverged : (i : ℕ) (why : Why) → (play log memory entry).now ≡ Ended (End.Diverged i why)
      → s.text ≡ account log memory entry (End.Diverged i why)

abbrev pub SlicesAreAccounts : Type 0
SlicesAreAccounts =
    (log : LogParts) (memory : List ℕ) (entry : ℕ)
    → IsAccount log memory entry (slice log memory entry 0 log.count)

abbrev pub SlicesJoin : Type 0
SlicesJoin =
    (log : LogParts) (memory : List ℕ) (entry i j k : ℕ)
    → i ≤ j
    → j ≤ k
    → (slice log memory entry i k).text
    ≡ lines_between log memory entry i j ++ (slice log memory entry j k).text

abbrev pub SlicesStopAtCount : Type 0
SlicesStopAtCount =
    (log : LogParts) (memory : List ℕ) (entry i j : ℕ)
    → slice log memory entry (min i log.count) (min j log.count) ≡ slice log memory entry i j
