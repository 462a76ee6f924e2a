-- A store as a mask and a value: where bit b of the mask is set, byte b of the word takes byte b of the value.
use Rattle.std.specs.Prelude.{ℕ, ◌+◌, ◌*◌, ◌/◌, ◌%◌, ◌^◌, Bool, true, false, nat_eq, List, [], ◌∷◌, Option, Some, None, if◌then◌else◌}
use Rattle.spec_isa.specs.Words.{Stored}

abbrev pub some_if : Bool → ℕ → Option ℕ
some_if true b = Some b
some_if false b = None

-- the store of these bytes of the value to the word of that number
unfoldable pub bytes_of : (number mask value : ℕ) → Stored
bytes_of w m v =
    record {
      number = w;
      b0 = some_if (nat_eq (m % 2) 1) (v % 2 ^ 8);
      b1 = some_if (nat_eq (m / 2 % 2) 1) (v / 2 ^ 8 % 2 ^ 8);
      b2 = some_if (nat_eq (m / 4 % 2) 1) (v / 2 ^ 16 % 2 ^ 8);
      b3 = some_if (nat_eq (m / 8 % 2) 1) (v / 2 ^ 24 % 2 ^ 8);
    }

abbrev pub bit_of : Option ℕ → ℕ
bit_of None = 0
bit_of (Some b) = 1

-- the mask of a store
unfoldable pub mask_of : Stored → ℕ
mask_of s = bit_of s.b0 + 2 * bit_of s.b1 + 4 * bit_of s.b2 + 8 * bit_of s.b3

abbrev pub or_byte : Option ℕ → ℕ → ℕ
or_byte None below = below
or_byte (Some b) below = b

-- the word below, except for the bytes that the store has
unfoldable pub word_over : Stored → (below : ℕ) → ℕ
word_over s w =
    or_byte s.b0 (w % 2 ^ 8) + or_byte s.b1 (w / 2 ^ 8 % 2 ^ 8) * 2 ^ 8
    + or_byte s.b2 (w / 2 ^ 16 % 2 ^ 8) * 2 ^ 16
    + or_byte s.b3 (w / 2 ^ 24 % 2 ^ 8) * 2 ^ 24

-- a word of memory read through stores laid over it, at most one of which is to that word
abbrev pub over : List Stored → (number below : ℕ) → ℕ
over [] a w = w
over (s ∷ ss) a w = if nat_eq s.number a then word_over s w else over ss a w
