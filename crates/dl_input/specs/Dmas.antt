-- The data of DMAs by their positions.
use Rattle.std.specs.Prelude.{◌≡◌, ℕ, slice_set, slice_index_or, ◌<◌, ◌==◌, Bool, true, List, [], ◌∷◌, length, Option, Some, None}
use Rattle.std.specs.Prelude.{if◌then◌else◌}
use Rattle.std.specs.Prelude.{nat_le}
use Rattle.std.specs.List.{AllAdjacentBelow, filter}
use Rattle.spec_log.specs.declared.records.DmaRecord.{DmaRecord}

-- each position is lower than the next
abbrev pub Rises : List DmaRecord → Type 0
Rises dmas = AllAdjacentBelow (λ x y. x.position < y.position) dmas (length dmas)

-- the bytes at a position
abbrev pub bytes_at : ℕ → List DmaRecord → Option (List ℕ)
bytes_at position [] = None
bytes_at position (dma ∷ dmas) = if dma.position == position then Some dma.bytes else bytes_at position dmas

-- those from a position on
abbrev pub dmas_from : ℕ → List DmaRecord → List DmaRecord
dmas_from position dmas = filter (λ dma. nat_le position dma.position) dmas

-- the marks, with that of a position set
abbrev pub taken_at : ℕ → List DmaRecord → List Bool → List Bool
taken_at position [] taken = taken
taken_at position (dma ∷ dmas) [] = []
taken_at position (dma ∷ dmas) (mark ∷ taken) = if dma.position == position then true ∷ taken else mark ∷ taken_at position dmas taken

-- the position is at a place, or nowhere
pub record Stands (position : ℕ) (dmas : List DmaRecord) (place : ℕ) : Type 0 where
  pub within : place < length dmas
  pub bytes : (d : DmaRecord) → bytes_at position dmas ≡ Some (slice_index_or dmas place d).bytes
  pub take : (taken : List Bool) → length taken ≡ length dmas → taken_at position dmas taken ≡ slice_set taken place true

pub record Misses (position : ℕ) (dmas : List DmaRecord) : Type 0 where
  pub bytes : bytes_at position dmas ≡ None
  pub take : (taken : List Bool) → length taken ≡ length dmas → taken_at position dmas taken ≡ taken

-- the data by rising positions, which of them were taken, and whether there is room for one more
pub record DmaList : Type 0 where
  pub dmas : List DmaRecord
  pub taken : List Bool
  pub room : Bool
