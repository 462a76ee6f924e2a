-- Whose commit a log names at a position.
use Rattle.std.specs.Prelude.{ℕ, suc, ◌+◌, ◌==◌, Bool, List, Option, Some, None, option_map, position, drop, slice_get, if◌then◌else◌}
use Rattle.std.specs.List.{list_any}
use Rattle.std.specs.Option.{option_or}
use Rattle.dl_entry.specs.declared.actor.Actor.{Actor}
use Rattle.dl_entry.specs.declared.actor.Actor.TheVariants.{Thread, Dma}
use Rattle.spec_log.specs.declared.mode_name.ModeName.{ModeName}
use Rattle.spec_log.specs.declared.mode_name.ModeName.TheVariants.{OrderSize, OrderOnly, Picolog}
use Rattle.spec_log.specs.declared.records.DmaRecord.{DmaRecord}
use Rattle.spec_log.specs.declared.log.LogParts.{LogParts}

-- the first live thread
abbrev pub first_live : List Bool → Option ℕ
first_live live = position (λ lives. lives) live

-- the first live thread of a higher number
abbrev pub next_live : ℕ → List Bool → Option ℕ
next_live last live = option_map (λ thread. suc last + thread) (first_live (drop (suc last) live))

-- the next live thread after the last that committed, cyclic; at first from thread 0 on
abbrev pub turn : Option ℕ → List Bool → Option ℕ
turn None live = first_live live
turn (Some last) live = option_or (next_live last live) (first_live live)

-- whether a DMA is logged at this position
abbrev pub is_dma_at : List DmaRecord → ℕ → Bool
is_dma_at dmas position = list_any (λ dma. dma.position == position) dmas

-- without an order, a DMA at its position, else the thread whose turn it is
abbrev pub head_by_turn : Bool → Option ℕ → List Bool → Option Actor
head_by_turn dma last live = if dma then Some Dma else option_map Thread (turn last live)

-- the actor of the commit at a position, by the thread that committed last and which threads are live
abbrev pub head_in : ModeName → LogParts → ℕ → Option ℕ → List Bool → Option Actor
head_in OrderSize log position last live = slice_get log.order position
head_in OrderOnly log position last live = slice_get log.order position
head_in Picolog log position last live = head_by_turn (is_dma_at log.dmas position) last live

abbrev pub head : LogParts → ℕ → Option ℕ → List Bool → Option Actor
head log position last live = head_in log.mode log position last live
