-- Strata on an image: their log plays there as they say, and no chunks of different threads in one stratum conflict.
use Rattle.std.specs.Prelude.{◌≡◌, ℕ, ◌-◌, nat_lt, Bool, false, List, [], ◌∷◌, map, replicate, IsSome, if◌then◌else◌}
use Rattle.std.specs.List.{sum, flat_map}
use Rattle.dl_entry.specs.declared.CommitKind.{CommitKind}
use Rattle.dl_entry.specs.declared.End.{End}
use Rattle.spec_kernel.specs.Needs.{next_kind}
use Rattle.spec_play.specs.Turns.{Turn, TurnOfDma, Ended}
use Rattle.spec_log.specs.declared.LogParts.{LogParts}
use Rattle.spec_play.specs.Plays.{Played, opened, plays, play, FitsImage}
use Rattle.spec_strata.specs.declared.stratum.Stratum.{Stratum}
use Rattle.spec_strata.specs.declared.stratum.Stratum.TheVariants.{Chunks, Serial, Dma}
use Rattle.spec_strata.specs.declared.strata.StrataParts.{StrataParts}
use Rattle.spec_strata.specs.Strata.{commits_in}
use Rattle.spec_strata.specs.Canonical.{rising, canonical}
use Rattle.spec_strata.specs.Shares.{stratum_start}
use Rattle.spec_strata.specs.Parallel.{clashes_in}
use Rattle.spec_strata.specs.InPlay.{rule_of, IsLooked, IsStratum}
use Rattle.spec_strata.specs.Orders.{TurnsAre}
use Rattle.spec_strata.specs.Relogged.{StepGoes, GoesNow}

-- the kinds of a stratum's commits
abbrev pub kinds_of : Stratum → List CommitKind
kinds_of (Chunks counts) = replicate (sum counts) CommitKind.Chunk
kinds_of (Serial thread) = CommitKind.Serial ∷ []
kinds_of Dma = CommitKind.Dma ∷ []

-- ---- conflicts

-- whether commit i of a stratum that begins at y conflicts with an earlier one of another thread in it
abbrev pub conflicts_in : LogParts → Played → Stratum → (i : ℕ) → Bool
conflicts_in log y (Chunks counts) i =
    clashes_in (rule_of log) (stratum_start y.memory y.threads) (rising 0 counts) i
conflicts_in log y (Serial thread) i = false
conflicts_in log y Dma i = false

-- so of these strata, the first of which begins at y
abbrev pub conflicts_at : LogParts → Played → List Stratum → (i : ℕ) → Bool
conflicts_at log y [] i = false
conflicts_at log y (x ∷ xs) i =
    if nat_lt i (commits_in x)
    then conflicts_in log y x i
    else conflicts_at log (plays log y (commits_in x)) xs (i - commits_in x)

-- ---- parallel

-- the canonical log fits the image, each commit is of the kind that its stratum holds, and none conflicts with an earlier
-- one of another thread in its stratum
pub record IsParallelOn (v : StrataParts) (memory : List ℕ) (entry : ℕ) : Type 0 where
  pub fits : FitsImage (canonical v) memory entry
  pub kinds : map (λ c. c.kind) (play (canonical v) memory entry).progress.commits ≡ flat_map kinds_of v.strata
  pub apart : (i : ℕ) → conflicts_at (canonical v) (opened (canonical v) memory entry) v.strata i ≡ false

-- ---- how the play goes then

-- thread k has the turn, and its step is serial and goes as logged
pub record SerialGoes (log : LogParts) (y : Played) (k : ℕ) : Type 0 where
  pub turn : y.now ≡ Turn k
  pub step : StepGoes log y k
  pub serial : IsSome (next_kind step.thread y.memory)

-- a stratum's commits come next, in canonical order, and go as logged; chunks without conflict
abbrev pub GoesAs : LogParts → Played → Stratum → Type 0
GoesAs log y (Chunks counts) = let ks = rising 0 counts in IsStratum log y ks × TurnsAre log y ks
GoesAs log y (Serial thread) = SerialGoes log y thread
GoesAs log y Dma = (y.now ≡ TurnOfDma) × GoesNow log y TurnOfDma

-- the play goes through these strata, one after the other, and is then complete
abbrev pub GoesThrough : LogParts → Played → List Stratum → Type 0
GoesThrough log y [] = y.now ≡ Ended (End.Complete log.count)
GoesThrough log y (x ∷ xs) = IsLooked log y × GoesAs log y x × GoesThrough log (plays log y (commits_in x)) xs

-- The canonical log's play goes through strata that are parallel on the image.
abbrev pub ParallelStrataGo : Type 0
ParallelStrataGo =
    (v : StrataParts) (memory : List ℕ) (entry : ℕ) → IsParallelOn v memory entry
    → GoesThrough (canonical v) (opened (canonical v) memory entry) v.strata
