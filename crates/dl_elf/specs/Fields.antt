-- The fields of a file at fixed places: numbers, little-endian.
use Rattle.std.specs.Prelude.{ℕ, List, drop, slice_index}
use Rattle.byteorder.specs.Endian.{little_number}

abbrev pub byte : (file : List ℕ) (place : ℕ) → ℕ
byte file place = slice_index file place

abbrev pub half : (file : List ℕ) (place : ℕ) → ℕ
half file place = little_number 2 (drop place file)

abbrev pub word : (file : List ℕ) (place : ℕ) → ℕ
word file place = little_number 4 (drop place file)

-- ---- what loading takes from a file's header

-- the address at which the first thread starts
abbrev pub entry_of : (file : List ℕ) → ℕ
entry_of file = word file 24

-- where the program headers begin, one after the other
abbrev pub table_of : (file : List ℕ) → ℕ
table_of file = word file 28

-- how many there are
abbrev pub count_of : (file : List ℕ) → ℕ
count_of file = half file 44
