-- The commits of a stratum in any order, and in canonical order, threads rising.
use Rattle.std.specs.Prelude.{◌≡◌, ℕ, zero, suc, ◌<◌, true, List, [], ◌∷◌, length, Some, ◌≢◌, ◌≤◌, ◌+◌, ◌++◌, slice_get, take}
use Rattle.spec_isa.specs.declared.thread.Parts.{Parts}
use Rattle.dl_entry.specs.declared.Actor.{Actor}
use Rattle.dl_entry.specs.declared.Commit.{Commit}
use Rattle.spec_log.specs.declared.LogParts.{LogParts}
use Rattle.spec_log.specs.declared.ModeName.{ModeName}
use Rattle.spec_kernel.specs.Interrupts.{is_live}
use Rattle.spec_play.specs.Effects.{chunk_commit}
use Rattle.spec_play.specs.Progress.{position}
use Rattle.spec_play.specs.Turns.{TurnOrEnd, Turn}
use Rattle.spec_play.specs.Plays.{Played, play_turn, play_one, plays}
use Rattle.spec_strata.specs.Shares.{counts_of, Share, bump, StratumState, state_at}
use Rattle.spec_strata.specs.InPlay.{with_state, IsLooked, rule_of, IsLike, plays_of, commits_of, IsStratum, ChunkGoes, ChunksGo, in_stratum}

-- ---- one commit more

-- a list with one more element, after the first so many
abbrev pub insert_at : {A : Type 0} → ℕ → A → List A → List A
insert_at zero x xs = x ∷ xs
insert_at (suc n) x [] = x ∷ []
insert_at (suc n) x (y ∷ ys) = y ∷ insert_at n x ys

-- how many commits come before the next one of thread k in canonical order: those of threads up to k
abbrev pub place : (thread : ℕ) → List Share → ℕ
place k [] = 0
place zero (p ∷ ps) = length p.runs
place (suc k) (p ∷ ps) = length p.runs + place k ps

-- thread k's next commit in play z, which takes the stratum from state x to v: it is a chunk and goes as logged, and among
-- the stratum's commits in canonical order it comes after those of threads up to k
pub record StepsOn (log : LogParts) (y z : Played) (x v : StratumState) (k : ℕ) : Type 0 where
  pub goes : ChunkGoes log z k
  pub like : IsLike (with_state log y v) (play_turn log z (Turn k))
  pub commit : Commit
  pub actor : commit.actor ≡ Actor.Thread k
  pub appended : (play_turn log z (Turn k)).progress.commits ≡ z.progress.commits ++ commit ∷ []
  pub placed : commits_of chunk_commit v.shares ≡ insert_at (place k x.shares) commit (commits_of chunk_commit x.shares)
  pub last : (play_turn log z (Turn k)).progress.last ≡ Some k
  pub looked : IsLooked log (play_turn log z (Turn k))

-- A commit of thread k that has some left, at any time within the stratum, and whatever was done: it is a chunk that goes as
-- logged, its run is the thread's next one of canonical order, and it leaves the play with one commit more of k.
abbrev pub StrataStep : Type 0
StrataStep =
    (log : LogParts) (y z : Played) (ks : List ℕ) (done : ℕ → ℕ) (k : ℕ) → 0 < log.s → IsStratum log y ks
    → ((j : ℕ) → bump done k j ≤ counts_of ks j) → IsLike (in_stratum log y done) z
    → let at_ = state_at (rule_of log) y.memory y.threads in StepsOn log y z (at_ done) (at_ (bump done k)) k

-- So a play that does a stratum's commits is like the one that their numbers give.
abbrev pub StrataPlayed : Type 0
StrataPlayed =
    (log : LogParts) (y : Played) (ks : List ℕ) → 0 < log.s → IsStratum log y ks
    → IsLike (in_stratum log y (counts_of ks)) (plays_of log y ks)

-- ---- any order

-- In every order, all or some of a stratum's commits go as logged, without conflict, and leave the play that their numbers
-- give.
abbrev pub StrataInterleave : Type 0
StrataInterleave =
    (log : LogParts) (y : Played) (ks js : List ℕ) → 0 < log.s → IsStratum log y ks
    → ((j : ℕ) → counts_of js j ≤ counts_of ks j)
    → IsStratum log y js × IsLike (in_stratum log y (counts_of js)) (plays_of log y js)

-- ---- canonical order

-- numbers that never fall, from k on
abbrev pub IsRising : ℕ → List ℕ → Type 0
IsRising k [] = Unit {0}
IsRising k (j ∷ js) = (k ≤ j) × IsRising j js

-- In canonical order, threads rising, the play within the stratum is wholly the one that the numbers of commits give.
abbrev pub CanonicalOrderPlays : Type 0
CanonicalOrderPlays =
    (log : LogParts) (y : Played) (ks : List ℕ) → 0 < log.s → IsStratum log y ks → IsRising 0 ks → IsLooked log y
    → plays_of log y ks ≡ in_stratum log y (counts_of ks)

-- these threads have the next turns
abbrev pub TurnsAre : LogParts → Played → List ℕ → Type 0
TurnsAre log y [] = Unit {0}
TurnsAre log y (k ∷ ks) = (y.now ≡ Turn k) × TurnsAre log (play_one log y) ks

-- So is the play of a log whose turns are in canonical order, at each number of commits.
abbrev pub CanonicalPlays : Type 0
CanonicalPlays =
    (log : LogParts) (y : Played) (ks : List ℕ) (i : ℕ) → 0 < log.s → IsStratum log y ks → IsRising 0 ks
    → IsLooked log y → TurnsAre log y ks → i ≤ length ks → plays log y i ≡ in_stratum log y (counts_of (take i ks))

-- ---- after a stratum

-- Plays that are alike stay alike, whatever commit follows, a serial step or a DMA too.
abbrev pub PlaysStayAlike : Type 0
PlaysStayAlike =
    (log : LogParts) (y z : Played) (now : TurnOrEnd) → IsLike y z → IsLike (play_turn log y now) (play_turn log z now)

-- If an order is logged, plays that are alike have the same turn.
abbrev pub TurnsAlike : Type 0
TurnsAlike =
    (log : LogParts) (y z : Played) → log.mode ≢ ModeName.Picolog → IsLike y z → IsLooked log y → IsLooked log z
    → z.now ≡ y.now

-- ---- turns

-- the log's order names these threads from a number of commits on
abbrev pub Names : LogParts → (position : ℕ) → List ℕ → Type 0
Names log i [] = Unit {0}
Names log i (k ∷ ks) = (slice_get log.order i ≡ Some (Actor.Thread k)) × Names log (suc i) ks

-- those of them that are there live
abbrev pub AreLive : Played → List ℕ → Type 0
AreLive y [] = Unit {0}
AreLive y (k ∷ ks) = ((t : Parts) → slice_get y.threads k ≡ Some t → is_live t ≡ true) × AreLive y ks

-- Chunks leave threads live: so if the log's order names these threads, which live before the first of the chunks, they have
-- the turns.
abbrev pub OrdersTurn : Type 0
OrdersTurn =
    (log : LogParts) (y : Played) (ks : List ℕ) → log.mode ≢ ModeName.Picolog → ChunksGo log y ks → IsLooked log y
    → Names log (position y.progress) ks → position y.progress + length ks ≤ log.count → AreLive y ks → TurnsAre log y ks
