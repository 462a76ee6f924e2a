-- Memory as a list of bytes, and the words that are stored in it. A word goes by its number, a quarter of its address.
use Rattle.std.specs.Prelude.{◌≢◌, ℕ, ◌+◌, ◌*◌, ◌/◌, ◌^◌, ◌<◌, Bool, true, false, List, [], ◌∷◌, Option, Some, None, if◌then◌else◌, nat_eq, nat_le}
use Rattle.std.specs.Prelude.{slice_set, slice_index}

-- bytes to be stored in the word of that number, the first at address 4 * number
pub record Stored : Type 0 where
  pub number : ℕ
  pub b0 : Option ℕ
  pub b1 : Option ℕ
  pub b2 : Option ℕ
  pub b3 : Option ℕ

-- the memory after a byte is stored, if there is one
abbrev pub with_byte : List ℕ → ℕ → Option ℕ → List ℕ
with_byte m a None = m
with_byte m a (Some b) = slice_set m a b

-- the memory after one store
unfoldable pub lay : List ℕ → Stored → List ℕ
lay m s =
    with_byte (with_byte (with_byte (with_byte m (4 * s.number) s.b0) (4 * s.number + 1) s.b1) (4 * s.number + 2) s.b2) (4 * s.number + 3) s.b3

-- the memory with these stores laid over it, the first one first
abbrev pub lays : List ℕ → List Stored → List ℕ
lays m [] = m
lays m (s ∷ ss) = lays (lay m s) ss

-- the word of that number, little-endian
unfoldable pub read : List ℕ → ℕ → ℕ
read m a =
    slice_index m (4 * a) + slice_index m (4 * a + 1) * 2 ^ 8 + slice_index m (4 * a + 2) * 2 ^ 16 + slice_index m (4 * a + 3) * 2 ^ 24

-- the byte that is there after both
abbrev pub later : Option ℕ → Option ℕ → Option ℕ
later old None = old
later old (Some b) = Some b

-- two stores to one word, as one
unfoldable pub merged : Stored → Stored → Stored
merged r s =
    record { number = r.number; b0 = later r.b0 s.b0; b1 = later r.b1 s.b1; b2 = later r.b2 s.b2; b3 = later r.b3 s.b3 }

-- the words stored, in the order of each one's first store, after one more store
abbrev pub put : List Stored → Stored → List Stored
put [] s = s ∷ []
put (r ∷ rs) s = if nat_eq r.number s.number then merged r s ∷ rs else r ∷ put rs s

-- whether the word is among those stored
abbrev pub holds : List Stored → ℕ → Bool
holds [] a = false
holds (r ∷ rs) a = if nat_eq r.number a then true else holds rs a

-- no store is to this word
abbrev pub Lacks : ℕ → List Stored → Type 0
Lacks a [] = Unit {0}
Lacks a (s ∷ ss) = (s.number ≢ a) × Lacks a ss

-- no two stores are to the same word
abbrev pub Apart : List Stored → Type 0
Apart [] = Unit {0}
Apart (s ∷ ss) = Lacks s.number ss × Apart ss

-- the word that holds the byte of that address is within a memory of that size
abbrev pub is_inside : (size addr : ℕ) → Bool
is_inside size a = nat_le (a / 4 * 4 + 4) size

-- each value in a memory is a byte
pub record IsBytes (m : List ℕ) : Type 0 where
  pub each : (i : ℕ) → slice_index m i < 2 ^ 8
