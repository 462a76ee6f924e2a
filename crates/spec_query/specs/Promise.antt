-- What the stores of a play tell of its commits.
use Rattle.std.specs.Prelude.{◌≡◌, ◌≢◌, ◌↔◌, ℕ, ◌*◌, ◌/◌, ◌≤◌, List, [], ◌∷◌, ◌++◌}
use Rattle.std.specs.List.{AllByRecursion}
use Rattle.dl_entry.specs.declared.Commit.{Commit}
use Rattle.spec_isa.specs.Words.{read}
use Rattle.spec_log.specs.declared.LogParts.{LogParts}
use Rattle.spec_play.specs.Progress.{position}
use Rattle.spec_play.specs.Plays.{Played, opened, play_one, plays}
use Rattle.spec_query.specs.declared.store.Store.{Store}
use Rattle.spec_query.specs.declared.when.When.{When}
use Rattle.spec_query.specs.Stores.{next_stores, stores_in}
use Rattle.spec_query.specs.Queries.{when_changed}

-- ---- the stores of one commit, before which a play is at y, and after which at z

-- a store has the commit's number and actor, and the value of its word after the commit
pub record IsOfCommit (y z : Played) (s : Store) : Type 0 where
  pub number : s.commit ≡ position y.progress
  pub commit : Commit
  pub done : z.progress.commits ≡ y.progress.commits ++ commit ∷ []
  pub actor : s.actor ≡ commit.actor
  pub value : s.value ≡ read z.memory (s.address / 4)

-- no store is to the word at that address
abbrev pub Spares : (addr : ℕ) → List Store → Type 0
Spares a [] = Unit {0}
Spares a (s ∷ ss) = (s.address ≢ a) × Spares a ss

-- no two stores are to the same word
abbrev pub AreApart : List Store → Type 0
AreApart [] = Unit {0}
AreApart (s ∷ ss) = Spares s.address ss × AreApart ss

pub record TellCommit (y z : Played) (ss : List Store) : Type 0 where
  pub each : AllByRecursion (IsOfCommit y z) ss
  pub apart : AreApart ss
  -- the word of that number keeps its value if no store is to it
  pub others : (n : ℕ) → Spares (4 * n) ss → read z.memory n ≡ read y.memory n

-- of every commit, at any place of a play
abbrev pub StoresAreTold : Type 0
StoresAreTold = (log : LogParts) (y : Played) → TellCommit y (play_one log y) (next_stores log y)

-- ---- that a word never changed

-- it has that value in the image, and after each of the first `to` commits
abbrev pub IsAlways : LogParts → (memory : List ℕ) → (entry to : ℕ) → (number value : ℕ) → Type 0
IsAlways log memory entry to n value =
    (i : ℕ) → i ≤ to → read (plays log (opened log memory entry) i).memory n ≡ value

abbrev pub NoChangeIsAlways : Type 0
NoChangeIsAlways =
    (log : LogParts) (memory : List ℕ) (entry to number value : ℕ)
    → (when_changed (stores_in log memory entry to) (read memory number) (4 * number) value ≡ When.None)
    ↔ IsAlways log memory entry to number value
