-- Signatures: two banks of bits, with a place for every line in each. A line is marked by setting both of its bits.
use Rattle.std.specs.Prelude.{ℕ, ◌+◌, ◌*◌, ◌/◌, ◌%◌, ◌^◌, Bool, not, ◌&&◌, nat_eq, List, [], ◌∷◌}
use Rattle.std.specs.Coded.{Coded, coded_ℕ}
use Rattle.std.specs.FinSet as set
use Rattle.std.specs.List.{list_any}
use Rattle.std.specs.Ordering.{nat_cmp}
use Rattle.spec_isa.specs.Words.{Stored}

-- the number of a signature's bits is a power of two, from 64 to 2048
abbrev pub is_size : (bits : ℕ) → Bool
is_size bits = list_any (λ size. nat_eq bits size) (64 ∷ 128 ∷ 256 ∷ 512 ∷ 1024 ∷ 2048 ∷ [])

-- the line that a sphere's word is in; a line has eight words
abbrev pub line : (sphere number : ℕ) → ℕ
line i a = i * 2 ^ 19 + a / 8

-- each bank has half of the bits
abbrev pub bank : (bits : ℕ) → ℕ
bank bits = bits / 2

-- the place of a line in the first bank: the line modulo the bank's size
abbrev pub low_place : (bits line : ℕ) → ℕ
low_place bits l = l % bank bits

-- its place in the second bank: the highest bits of a 32-bit product, as many as it takes to number the bank's places
abbrev pub high_place : (bits line : ℕ) → ℕ
high_place bits l = l * 2654435761 % 2 ^ 32 / (2 ^ 32 / bank bits)

-- the size, and the places that are set in each bank
pub record Signature : Type 0 where
  pub bits : ℕ
  pub low : set.FinSet nat_cmp
  pub high : set.FinSet nat_cmp

-- so that a set of places can be a model's value
abbrev pub places_code : Coded (set.FinSet nat_cmp)
places_code = set.code coded_ℕ

-- no line is marked
abbrev pub nothing : (bits : ℕ) → Signature
nothing bits = record { bits = bits; low = set.empty; high = set.empty }

-- one more line is marked
abbrev pub insert : (line : ℕ) → Signature → Signature
insert l g = record g { low = set.insert g.low (low_place g.bits l); high = set.insert g.high (high_place g.bits l) }

-- both bits of the line are set
abbrev pub covers : Signature → (line : ℕ) → Bool
covers g l = set.contains g.low (low_place g.bits l) && set.contains g.high (high_place g.bits l)

-- two sets share a place
unfoldable pub meets : set.FinSet nat_cmp → set.FinSet nat_cmp → Bool
meets s t = not (nat_eq (set.len (set.intersection s t)) 0)

-- two signatures hit if in both banks they share a set bit
abbrev pub hits : Signature → Signature → Bool
hits g h = meets g.low h.low && meets g.high h.high

-- the lines of these words of a sphere are marked too
abbrev pub signed : (sphere : ℕ) → List Stored → Signature → Signature
signed i [] g = g
signed i (s ∷ ss) g = signed i ss (insert (line i s.number) g)
