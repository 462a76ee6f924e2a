-- The check for conflicts, as it goes on.
use Rattle.std.specs.Prelude.{◌≡◌, ℕ, zero, suc, ◌+◌, ◌*◌, ◌<◌, Bool, true, false, List, [], ◌∷◌, ◌++◌, length, Result, Ok, Err}
use Rattle.spec_log.specs.declared.LogParts.{LogParts}
use Rattle.spec_play.specs.Progress.{position}
use Rattle.spec_play.specs.Turns.{Turn, TurnOfDma}
use Rattle.spec_play.specs.Plays.{Played, play_one, plays}
use Rattle.spec_strata.specs.declared.touch.Touch.{Touch}
use Rattle.spec_strata.specs.declared.stratum.Stratum.{Stratum}
use Rattle.spec_strata.specs.declared.stratum.Stratum.TheVariants.{Chunks, Serial, Dma}
use Rattle.spec_strata.specs.Strata.{commits_in}
use Rattle.spec_strata.specs.Canonical.{rising}
use Rattle.spec_strata.specs.Shares.{StratumState, commit_more}
use Rattle.spec_strata.specs.Parallel.{clashes_next}
use Rattle.spec_strata.specs.InPlay.{rule_of, ChunkGoes}
use Rattle.spec_strata.specs.Touches.{AreTouches}
use Rattle.spec_strata.specs.Coming.{HasCome}
use Rattle.spec_strata.specs.Relogged.{GoesNow}
use Rattle.spec_strata.specs.OnImages.{SerialGoes, conflicts_at}
use Rattle.spec_strata.specs.Checking.{IsLeast}
use Rattle.dl_serial.specs.Playing.{Playing}
use Rattle.dl_strata.specs.Tables.{touch_of}
use Rattle.dl_strata.specs.declared.checking.CheckError.{CheckError}
use Rattle.dl_strata.specs.declared.checker.Checker.{Checker}

-- ---- what comes

-- chunks of these threads come next, and go as logged
abbrev pub ChunksCome : LogParts → Played → List ℕ → Type 0
ChunksCome log y [] = Unit {0}
ChunksCome log y (k ∷ ks) = (y.now ≡ Turn k) × ChunkGoes log y k × ChunksCome log (play_one log y) ks

-- the commits of a stratum do
abbrev pub StratumComes : LogParts → Played → Stratum → Type 0
StratumComes log y (Chunks counts) = ChunksCome log y (rising 0 counts)
StratumComes log y (Serial thread) = SerialGoes log y thread
StratumComes log y Dma = (y.now ≡ TurnOfDma) × GoesNow log y TurnOfDma

-- those of these strata do, one after the other
abbrev pub StrataCome : LogParts → Played → List Stratum → Type 0
StrataCome log y [] = Unit {0}
StrataCome log y (x ∷ xs) = StratumComes log y x × StrataCome log (plays log y (commits_in x)) xs

-- whether commit i conflicts: first come chunks of these threads, in a stratum that has this state, and then these strata
abbrev pub conflicts_on : LogParts → Played → StratumState → List ℕ → List Stratum → (i : ℕ) → Bool
conflicts_on log y x [] xs i = conflicts_at log y xs i
conflicts_on log y x (k ∷ ks) xs zero = clashes_next (rule_of log) x k
conflicts_on log y x (k ∷ ks) xs (suc i) =
    conflicts_on log (play_one log y) (commit_more (rule_of log) x k) ks xs i

-- ---- where the check is

-- none of the first n commits conflicts, and of the later ones those that are said to
pub record AreLeft (all : ℕ → Bool) (n : ℕ) (left : ℕ → Bool) : Type 0 where
  pub before : (i : ℕ) → i < n → all i ≡ false
  pub after : (i : ℕ) → all (n + i) ≡ left i

-- the table is of the words of the memory, and a chunk has a size
pub record IsReady (p : Playing) (touches : List Touch) : Type 0 where
  pub some : 0 < p.log.s
  pub words : 4 * length touches ≡ length p.played.memory

-- it has come to these strata
pub record IsBetween (all : ℕ → Bool) (p : Playing) (touches : List Touch) (xs : List Stratum) : Type 0 where
  pub ready : IsReady p touches
  pub come : StrataCome p.log p.played xs
  pub left : AreLeft all (position p.played.progress) (conflicts_at p.log p.played xs)

-- it is in a stratum, and has come to chunks of these threads; then come these strata
pub record IsInStratum (all : ℕ → Bool) (p : Playing) (touches : List Touch) (ks : List ℕ) (xs : List Stratum) : Type 0 where
  pub ready : IsReady p touches
  pub state : StratumState
  pub reached : HasCome p.played state
  pub touches_are : AreTouches state.shares (touch_of touches)
  pub chunks : ChunksCome p.log p.played ks
  pub come : StrataCome p.log (plays p.log p.played (length ks)) xs
  pub left : AreLeft all (position p.played.progress) (conflicts_on p.log p.played state ks xs)

-- ---- what a call does

-- the first of all commits that conflicts; that memory ran out has no cause
abbrev pub IsFirst : (all : ℕ → Bool) → CheckError → Type 0
IsFirst all (CheckError.Conflict i) = IsLeast (λ j. all j ≡ true) i
IsFirst all (CheckError.Unfit i) = ⊥
IsFirst all CheckError.OutOfMemory = Unit {0}

-- it comes to this, or stops at the first commit that conflicts
abbrev pub ComesTo : (all : ℕ → Bool) → Result (Unit {0}) CheckError → (goal : Type 0) → Type 0
ComesTo all (Ok done) goal = goal
ComesTo all (Err error) goal = IsFirst all error

-- the check has come to a stratum
pub record CanCheck (c : Checker) (x : Stratum) : Type 0 where
  pub all : ℕ → Bool
  pub strata : List Stratum
  pub before : IsBetween all c.player c.touches.touches (x ∷ strata)

-- its commits are checked
abbrev pub Checks : Stratum → (old : Checker) → Result (Unit {0}) CheckError → (new : Checker) → Type 0
Checks x old result new =
    (all : ℕ → Bool) (xs : List Stratum) → IsBetween all old.player old.touches.touches (x ∷ xs)
    → ComesTo all result (IsBetween all new.player new.touches.touches xs)

-- the check has come to chunks of these threads, within a stratum
pub record CanCheckChunks (c : Checker) (ks : List ℕ) : Type 0 where
  pub all : ℕ → Bool
  pub threads : List ℕ
  pub strata : List Stratum
  pub within : IsInStratum all c.player c.touches.touches (ks ++ threads) strata

-- they are checked
abbrev pub ChecksChunks : List ℕ → (old : Checker) → Result (Unit {0}) CheckError → (new : Checker) → Type 0
ChecksChunks ks old result new =
    (all : ℕ → Bool) (js : List ℕ) (xs : List Stratum) → IsInStratum all old.player old.touches.touches (ks ++ js) xs
    → ComesTo all result (IsInStratum all new.player new.touches.touches js xs)
