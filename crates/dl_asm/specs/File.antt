-- The file of an image in its short form: a header of 52 bytes, one program header of 32, and the code from byte 84 on.
use Rattle.std.specs.Prelude.{ℕ, ◌-◌, List, [], ◌∷◌, ◌++◌, length, replicate}
use Rattle.std.specs.List.{flat_map}
use Rattle.byteorder.specs.Endian.{little_bytes}
use Rattle.dl_elf.specs.Images.{Image}

-- of a little-endian ELF32 program for RISC-V, with entry 0 and a program header at 52
abbrev pub header : List ℕ
header =
    0x7F ∷ 0x45 ∷ 0x4C ∷ 0x46 ∷ 1 ∷ 1 ∷ 1 ∷ 0 ∷ 0 ∷ 0 ∷ 0 ∷ 0 ∷ 0 ∷ 0 ∷ 0 ∷ 0
    ∷ 2 ∷ 0 ∷ 0xF3 ∷ 0 ∷ 1 ∷ 0 ∷ 0 ∷ 0 ∷ 0 ∷ 0 ∷ 0 ∷ 0 ∷ 0x34 ∷ 0 ∷ 0 ∷ 0 ∷ 0 ∷ 0 ∷ 0 ∷ 0 ∷ 0 ∷ 0 ∷ 0 ∷ 0
    ∷ 0x34 ∷ 0 ∷ 0x20 ∷ 0 ∷ 1 ∷ 0 ∷ 0 ∷ 0 ∷ 0 ∷ 0 ∷ 0 ∷ 0 ∷ []

-- loaded from byte 84 of the file to address 0; the two sizes come next
abbrev pub placed : List ℕ
placed = 1 ∷ 0 ∷ 0 ∷ 0 ∷ 0x54 ∷ 0 ∷ 0 ∷ 0 ∷ 0 ∷ 0 ∷ 0 ∷ 0 ∷ 0 ∷ 0 ∷ 0 ∷ 0 ∷ []

-- it may be read, written and run, and is aligned to a word
abbrev pub allowed : List ℕ
allowed = 7 ∷ 0 ∷ 0 ∷ 0 ∷ 4 ∷ 0 ∷ 0 ∷ 0 ∷ []

abbrev pub program_header : (size : ℕ) → List ℕ
program_header size = placed ++ little_bytes 4 size ++ little_bytes 4 size ++ allowed

-- each word little-endian
abbrev pub code_of : (words : List ℕ) → List ℕ
code_of words = flat_map (little_bytes 4) words

unfoldable pub file_of : (words : List ℕ) → List ℕ
file_of words = header ++ program_header (length (code_of words)) ++ code_of words

-- the words from address 0 on, and zeros to the memory's end
abbrev pub image_by : (words : List ℕ) (size : ℕ) → Image
image_by words size = record { size = size; entry = 0; bytes = code_of words ++ replicate (size - length (code_of words)) 0 }
