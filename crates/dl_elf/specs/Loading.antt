-- What a file is loaded to.
use Rattle.std.specs.Prelude.{ℕ, ◌+◌, ◌-◌, List, map, Option, Some, None, Result, Ok, Err}
use Rattle.std.specs.List.{range_with_len, find}
use Rattle.dl_elf.specs.declared.segment.Segment.{Segment}
use Rattle.dl_elf.specs.Images.{Image}
use Rattle.dl_elf.specs.Fields.{byte, entry_of}
use Rattle.dl_elf.specs.Segments.{loaded_of, fills}
use Rattle.dl_elf.specs.Rules.{broken}

-- the file's byte if a segment is filled from it there, else 0
abbrev pub byte_from : (file : List ℕ) (address : ℕ) → Option Segment → ℕ
byte_from file address None = 0
byte_from file address (Some segment) = byte file (segment.offset + (address - segment.address))

-- the byte of the memory at an address
abbrev pub byte_at : (file : List ℕ) → List Segment → (address : ℕ) → ℕ
byte_at file segments address = byte_from file address (find (fills address) segments)

abbrev pub memory_of : (file : List ℕ) → List Segment → (size : ℕ) → List ℕ
memory_of file segments size = map (byte_at file segments) (range_with_len 0 size)

abbrev pub loaded_to : (file : List ℕ) (size : ℕ) → Image
loaded_to file size = record { size = size; entry = entry_of file; bytes = memory_of file (loaded_of file) size }

abbrev pub image_by : (file : List ℕ) (size : ℕ) → Option ℕ → Result Image ℕ
image_by file size None = Ok (loaded_to file size)
image_by file size (Some rule) = Err rule

-- the image in a file, for a memory of that size, or the first rule that the file breaks
abbrev pub image_of : (file : List ℕ) (size : ℕ) → Result Image ℕ
image_of file size = image_by file size (broken file size)
