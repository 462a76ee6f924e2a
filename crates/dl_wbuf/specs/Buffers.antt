-- A write buffer: the words stored, in the order of each one's first store, and how many there is room for.
use Rattle.std.specs.Prelude.{◌≡◌, ℕ, ◌/◌, ◌%◌, Bool, List, [], ◌∷◌, length, Option, None, if◌then◌else◌, nat_eq, nat_lt, ◌||◌}
use Rattle.spec_isa.specs.Words.{Stored, later, put, holds}

pub record Words : Type 0 where
  pub capacity : ℕ
  pub words : List Stored

-- whether there is room for a store to word number a
abbrev pub has_room : Words → (a : ℕ) → Bool
has_room w a = holds w.words a || nat_lt (length w.words) w.capacity

abbrev pub after_store : Words → Stored → Words
after_store w s = record w { words = put w.words s }

-- byte k of the word, if it was stored
abbrev pub lane : Stored → (k : ℕ) → Option ℕ
lane s k = if nat_eq k 0 then s.b0 else (if nat_eq k 1 then s.b1 else (if nat_eq k 2 then s.b2 else s.b3))

-- the byte at that address, if it is held
abbrev pub byte_held : List Stored → (byte : ℕ) → Option ℕ
byte_held [] byte = None
byte_held (s ∷ ss) byte = if nat_eq s.number (byte / 4) then lane s (byte % 4) else byte_held ss byte

-- the words of these stores, put one after another
abbrev pub puts : List Stored → (stores : List Stored) → List Stored
puts ws [] = ws
puts ws (s ∷ ss) = puts (put ws s) ss

-- the byte for that address that the last of these stores with such a byte has
abbrev pub last_stored : (stores : List Stored) → (byte : ℕ) → Option ℕ
last_stored [] byte = None
last_stored (s ∷ ss) byte = later (byte_held (s ∷ []) byte) (last_stored ss byte)

-- whichever stores the words come from, the answer is the byte that was stored last at the address
abbrev pub IsLast : List Stored → (byte : ℕ) → (answer : Option ℕ) → Type 0
IsLast words byte answer = (stores : List Stored) → words ≡ puts [] stores → answer ≡ last_stored stores byte
