-- How a stratum begins.
use Rattle.std.specs.Prelude.{ℕ, List, [], ◌∷◌, map, take, drop, Option, Some, None}
use Rattle.dl_entry.specs.declared.Actor.{Actor}
use Rattle.spec_strata.specs.declared.stratum.Stratum.{Stratum}
use Rattle.spec_strata.specs.declared.stratum.Stratum.TheVariants.{Chunks, Serial, Dma}
use Rattle.spec_strata.specs.declared.strata.StrataParts.{StrataParts}
use Rattle.spec_strata.specs.Standing.{head_of, nothing_done}
use Rattle.dl_replay.specs.Standings.{count_of}
use Rattle.dl_replay.specs.declared.ready.Start.{Start}

-- of these counts nothing is done
abbrev pub none_done_of : (counts : List ℕ) → List ℕ
none_done_of counts = map (λ count. 0) counts

-- how many chunks it has, and whose commit is first
abbrev pub start_of : Stratum → Start
start_of x = record { count = count_of x; head = head_of x (nothing_done (x ∷ [])) }

-- and where no stratum is left
abbrev pub start_if : Option Stratum → Start
start_if None = record { count = None; head = None }
start_if (Some x) = start_of x

-- ---- strata that are laid out

-- a stratum by how it begins and by its counts
abbrev pub alone_by : (head : Option Actor) → Stratum
alone_by None = Dma
alone_by (Some (Actor.Thread k)) = Serial k
alone_by (Some Actor.Dma) = Dma

abbrev pub stratum_by : (count : Option ℕ) → (head : Option Actor) → (counts : List ℕ) → Stratum
stratum_by None head counts = alone_by head
stratum_by (Some n) head counts = Chunks counts

-- all of them, which have so many counts each
abbrev pub laid : (threads : ℕ) → List Start → (counts : List ℕ) → List Stratum
laid n [] counts = []
laid n (x ∷ xs) counts = stratum_by x.count x.head (take n counts) ∷ laid n xs (drop n counts)

-- the parts with these strata
abbrev pub laid_with : StrataParts → List Start → (counts : List ℕ) → StrataParts
laid_with v starts counts = record v { strata = laid v.counted starts counts }
