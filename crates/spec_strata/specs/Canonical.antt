-- The log of some strata: its order is theirs, and within one the threads rise.
use Rattle.std.specs.Prelude.{ℕ, suc, List, [], ◌∷◌, ◌++◌, map, replicate}
use Rattle.std.specs.List.{flat_map}
use Rattle.dl_entry.specs.declared.Actor.{Actor}
use Rattle.spec_log.specs.declared.ModeName.{ModeName}
use Rattle.spec_log.specs.declared.Sizes.{Sizes}
use Rattle.spec_log.specs.declared.LogParts.{LogParts}
use Rattle.spec_log.specs.Log.{IsLog}
use Rattle.spec_strata.specs.declared.stratum.Stratum.{Stratum}
use Rattle.spec_strata.specs.declared.stratum.Stratum.TheVariants.{Chunks, Serial, Dma}
use Rattle.spec_strata.specs.declared.strata.StrataParts.{StrataParts}
use Rattle.spec_strata.specs.Strata.{commits_in_all, AreStrata}

-- threads from a number on, rising, each as often as it is counted
abbrev pub rising : (thread : ℕ) → (counts : List ℕ) → List ℕ
rising thread [] = []
rising thread (count ∷ counts) = replicate count thread ++ rising (suc thread) counts

-- the actors of a stratum's commits
abbrev pub order_of : Stratum → List Actor
order_of (Chunks counts) = map Actor.Thread (rising 0 counts)
order_of (Serial thread) = Actor.Thread thread ∷ []
order_of Dma = Actor.Dma ∷ []

-- a log of version 2, in order-only
abbrev pub canonical : StrataParts → LogParts
canonical v =
    record {
      version = 2;
      threads = v.threads;
      mode = ModeName.OrderOnly;
      s = v.s;
      count = commits_in_all v.strata;
      order = flat_map order_of v.strata;
      sizes = Sizes.Short v.sizes;
      interrupts = v.interrupts;
      inputs = v.inputs;
      dmas = v.dmas;
    }

-- It is a log.
abbrev pub CanonicalIsLog : Type 0
CanonicalIsLog = (v : StrataParts) → AreStrata v → IsLog (canonical v)
