-- What is true of every buffer.
use Rattle.std.specs.Prelude.{◌≡◌, ℕ, ◌+◌, ◌*◌, ◌-◌, ◌<◌, ◌≤◌, List, length, Option, Some, None, if◌then◌else◌, nat_eq, nat_lt}
use Rattle.std.specs.List.{position}
use Rattle.spec_isa.specs.Words.{Stored, Apart}
use Rattle.dl_wbuf.specs.Tables.{Slots, place}

-- each word is there once, and there are no more than the capacity, which is from 1 to 65,536; and room is made for that many
pub record IsBuffer (capacity room : ℕ) (words : List Stored) : Type 0 where
  pub apart : Apart words
  pub within : length words ≤ capacity
  pub least : 1 ≤ capacity
  pub most : capacity ≤ 65536
  pub made : capacity ≤ room

-- which of the words left came at this place, if `drained` have been taken out: none, if it is one of these
abbrev pub left : (drained : ℕ) → (place : Option ℕ) → Option ℕ
left drained None = None
left drained (Some i) = if nat_lt i drained then None else Some (i - drained)

-- the table has the place of each word left, counted from the first that came since it was last emptied; `drained` words have
-- been taken out since, and there is room for twice the capacity
pub record IsPlaced (capacity drained : ℕ) (table : Slots) (words : List Stored) : Type 0 where
  pub places : (a : ℕ) → left drained (place table a) ≡ position (λ s. nat_eq s.number a) words
  pub taken : length table.taken ≤ drained + length words
  pub room : table.room ≡ 2 * capacity
  pub few : drained < capacity
