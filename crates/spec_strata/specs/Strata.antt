-- What makes parts strata: their ranges, and the orders of their entries.
use Rattle.std.specs.Prelude.{◌≡◌, ℕ, ◌^◌, ◌<◌, ◌≤◌, ◌⊎◌, List, [], ◌∷◌, length, All}
use Rattle.std.specs.List.{sum, sum_by}
use Rattle.dl_entry.specs.Numbers.{most_threads, plain_threads}
use Rattle.spec_log.specs.Versions.{IsStandard}
use Rattle.spec_log.specs.Log.{AreShortSizes, AreInterrupts, AreInputs, AreDmas}
use Rattle.spec_strata.specs.declared.stratum.Stratum.{Stratum}
use Rattle.spec_strata.specs.declared.stratum.Stratum.TheVariants.{Chunks, Serial, Dma}
use Rattle.spec_strata.specs.declared.strata.StrataParts.{StrataParts}

-- how many commits a stratum has
abbrev pub commits_in : Stratum → ℕ
commits_in (Chunks counts) = sum counts
commits_in (Serial thread) = 1
commits_in Dma = 1

-- and how many all of them have
abbrev pub commits_in_all : List Stratum → ℕ
commits_in_all strata = sum_by commits_in strata

-- chunks are counted for each thread, each number in a byte, and they are not none; a serial step is of one of these threads
abbrev pub IsStratumOf : (counted : ℕ) → Stratum → Type 0
IsStratumOf counted (Chunks counts) = (length counts ≡ counted) × All (λ count. count < 256) counts × (1 ≤ sum counts)
IsStratumOf counted (Serial thread) = thread < counted
IsStratumOf counted Dma = Unit {0}

-- the sphere may have 15 or 63 threads, and strata count some of them
abbrev pub AreThreads : (counted threads : ℕ) → Type 0
AreThreads counted threads =
    ((threads ≡ plain_threads) ⊎ (threads ≡ most_threads)) × (1 ≤ counted) × (counted ≤ threads)

-- the parts are strata
pub record AreStrata (v : StrataParts) : Type 0 where
  pub threads : AreThreads v.counted v.threads
  pub s : IsStandard 2 v.s
  pub few : length v.strata < 2 ^ 32
  pub each : All (IsStratumOf v.counted) v.strata
  pub commits : commits_in_all v.strata ≤ 2 ^ 24
  pub sizes : AreShortSizes v.counted v.s v.sizes
  pub interrupts : AreInterrupts v.counted v.interrupts
  pub inputs : AreInputs v.inputs
  pub dmas : AreDmas v.dmas

-- ---- what their play needs

-- chunks are not none
abbrev pub HaveSome : List Stratum → Type 0
HaveSome [] = Unit {0}
HaveSome (Chunks counts ∷ xs) = (0 < sum counts) × HaveSome xs
HaveSome (Serial thread ∷ xs) = HaveSome xs
HaveSome (Dma ∷ xs) = HaveSome xs
