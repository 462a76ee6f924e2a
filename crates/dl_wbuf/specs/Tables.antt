-- A table with open addressing: for some numbers a place each. A slot is free, or is taken by the entry of a number, which is in
-- the first slot from its home on that was free. Homes lie in the first half, so that a probe meets a free slot before the end.
use Rattle.std.specs.Prelude.{◌≡◌, ℕ, ◌+◌, ◌*◌, ◌/◌, ◌%◌, ◌^◌, ◌<◌, ◌≤◌, Bool, true, List, [], ◌∷◌, length, drop, Option, Some, None, nat_eq}
use Rattle.std.specs.Int.{bit_at}
use Rattle.std.specs.List.{position_or_len, Contains, slice_index_or}
use Rattle.dl_wbuf.specs.declared.entry.Entry.{Entry}

-- the slots, those of them that are taken, how many of these there is room for, and how many of its lowest bits a hash loses
pub record Slots : Type 0 where
  pub slots : List (Option Entry)
  pub taken : List ℕ
  pub room : ℕ
  pub shift : ℕ

-- the slot at which a number's probe begins
unfoldable pub home : (shift number : ℕ) → ℕ
home shift a = a * 2654435769 % 2 ^ 32 / 2 ^ shift

-- whether a probe for the number stops at the slot
abbrev pub fits : (number : ℕ) → Option Entry → Bool
fits a None = true
fits a (Some e) = nat_eq e.number a

-- how many slots are taken
abbrev pub used : List (Option Entry) → ℕ
used [] = 0
used (None ∷ ss) = used ss
used (Some e ∷ ss) = 1 + used ss

-- the slot at which a probe that begins at `start` ends
abbrev pub probe : List (Option Entry) → (start number : ℕ) → ℕ
probe slots start a = start + position_or_len (fits a) (drop start slots)

-- the slot of a number: the one that its entry takes, or would take
abbrev pub slot_of : Slots → (number : ℕ) → ℕ
slot_of t a = probe t.slots (home t.shift a) a

abbrev pub place_of : Option Entry → Option ℕ
place_of None = None
place_of (Some e) = Some e.place

abbrev pub place_in : Slots → (slot : ℕ) → Option ℕ
place_in t slot = place_of (slice_index_or t.slots slot None)

-- the place that the table has for a number
abbrev pub place : Slots → (number : ℕ) → Option ℕ
place t a = place_in t (slot_of t a)

-- what is true of every table
pub record IsOpen (t : Slots) : Type 0 where
  pub stands : (i : ℕ) (e : Entry) → slice_index_or t.slots i None ≡ Some e → slot_of t e.number ≡ i
  pub listed : (i : ℕ) (e : Entry) → slice_index_or t.slots i None ≡ Some e → Contains t.taken i
  pub inside : (i : ℕ) → Contains t.taken i → i < length t.slots
  pub count : used t.slots ≤ length t.taken
  pub within : length t.taken ≤ t.room
  pub half : 2 * t.room ≤ length t.slots
  pub homes : (a : ℕ) → 2 * home t.shift a < length t.slots
  pub shift : t.shift < 32
  pub most : length t.slots < 2 ^ 32

-- the bit for the line of a word
abbrev pub line_bit : (number : ℕ) → ℕ
line_bit a = a / 8 % 64

-- a word whose bit isn't set has no place
pub record IsSifted (lines : ℕ) (t : Slots) : Type 0 where
  pub none : (a : ℕ) → bit_at lines (line_bit a) ≡ 0 → place t a ≡ None
