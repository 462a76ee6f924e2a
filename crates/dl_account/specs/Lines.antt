-- The lines of texts: their fields, and texts of numbered entries.
use Rattle.std.specs.Prelude.{ℕ, ◌+◌, ◌/◌, ◌%◌, true, List, [], ◌∷◌, ◌++◌, codes, flat_map}
use Rattle.std.specs.Fmt.{digit_glyph}
use Rattle.std.specs.Int.{to_be_bytes, w32}

-- a field comes after a space
abbrev pub spaced : List ℕ → List ℕ
spaced field = codes " " ++ field

-- a line is its name, its fields and a line feed
abbrev pub line : (name : List ℕ) → (fields : List (List ℕ)) → List ℕ
line name fields = name ++ flat_map spaced fields ++ codes "\n"

-- a byte as two upper-case hexadecimal digits, the high one first
abbrev pub hex_byte : ℕ → List ℕ
hex_byte byte = digit_glyph true (byte / 16) ∷ digit_glyph true (byte % 16) ∷ []

-- bytes as two digits each
abbrev pub hex_bytes : List ℕ → List ℕ
hex_bytes bytes = flat_map hex_byte bytes

-- an address or a register as eight digits: its bytes, the highest first
unfoldable pub hex_word : ℕ → List ℕ
hex_word word = hex_bytes (to_be_bytes w32 word)

-- the texts of entries, one after another, with their numbers from `n` on
abbrev pub numbered : {X : Type 0} → (ℕ → X → List ℕ) → ℕ → List X → List ℕ
numbered text n [] = []
numbered text n (x ∷ xs) = text n x ++ numbered text (n + 1) xs
