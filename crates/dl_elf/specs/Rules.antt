-- The rules that a file must keep to be an image in a memory of a given size. They are numbered in their order, and the
-- first broken one is told. Sums are exact: none wraps.
use Rattle.std.specs.Prelude.{ℕ, ◌+◌, ◌*◌, ◌%◌, ◌==◌, Bool, ◌&&◌, not, nat_lt, nat_le, List, [], ◌∷◌, length, take, Option, Some, None, if◌then◌else◌}
use Rattle.std.specs.List.{range_with_len, list_any, list_all, count_by}
use Rattle.std.specs.Option.{option_or}
use Rattle.std.specs.Str.{bytes_eq}
use Rattle.dl_elf.specs.declared.segment.Segment.{Segment}
use Rattle.dl_elf.specs.Fields.{byte, half, word, entry_of, table_of, count_of}
use Rattle.dl_elf.specs.Segments.{loaded_of, has_address}

-- ---- the header, of 52 bytes

abbrev pub has_header : (file : List ℕ) → Bool
has_header file = nat_le 52 (length file)

-- 7F "ELF", and version 1 in both places
abbrev pub is_elf : (file : List ℕ) → Bool
is_elf file = bytes_eq (0x7F ∷ 0x45 ∷ 0x4C ∷ 0x46 ∷ []) (take 4 file) && (byte file 6 == 1) && (word file 20 == 1)

-- of 32 bits
abbrev pub is_narrow : (file : List ℕ) → Bool
is_narrow file = byte file 4 == 1

-- little-endian
abbrev pub is_little : (file : List ℕ) → Bool
is_little file = byte file 5 == 1

-- neither an object nor a library
abbrev pub is_program : (file : List ℕ) → Bool
is_program file = half file 16 == 2

abbrev pub is_riscv : (file : List ℕ) → Bool
is_riscv file = half file 18 == 243

-- no compressed instructions, no floating-point ABI, and no ABI with fewer registers; other flags aren't looked at
abbrev pub is_plain : (file : List ℕ) → Bool
is_plain file = word file 36 % 16 == 0

-- program headers have 32 bytes each, and lie in the file
abbrev pub has_table : (file : List ℕ) → Bool
has_table file = (half file 42 == 32) && nat_le (table_of file + 32 * count_of file) (length file)

-- the first broken rule on the header
abbrev pub broken_by_header : (file : List ℕ) → Option ℕ
broken_by_header file =
    if not (has_header file) then Some 1
    else if not (is_elf file) then Some 2
    else if not (is_narrow file) then Some 3
    else if not (is_little file) then Some 4
    else if not (is_program file) then Some 5
    else if not (is_riscv file) then Some 6
    else if not (is_plain file) then Some 7
    else if not (has_table file) then Some 8
    else None

-- ---- the loaded segments, each rule over all of them

-- what is filled from the file is within the file, and is no more than the segment has in memory
abbrev pub is_in_file : (file : List ℕ) → Segment → Bool
is_in_file file segment =
    nat_le (segment.offset + segment.file_size) (length file) && nat_le segment.file_size segment.memory_size

abbrev pub is_in_memory : (size : ℕ) → Segment → Bool
is_in_memory size segment = nat_le (segment.address + segment.memory_size) size

-- some address of the memory is in more than one of them
unfoldable pub overlap : (size : ℕ) → List Segment → Bool
overlap size segments = list_any (λ address. nat_lt 1 (count_by (has_address address) segments)) (range_with_len 0 size)

-- the address of a word in the memory
abbrev pub is_entry : (size entry : ℕ) → Bool
is_entry size entry = (entry % 4 == 0) && nat_lt entry size

-- the first broken rule on the segments
abbrev pub broken_by_segments : (file : List ℕ) (size entry : ℕ) → List Segment → Option ℕ
broken_by_segments file size entry segments =
    if not (list_all (is_in_file file) segments) then Some 9
    else if not (list_all (is_in_memory size) segments) then Some 10
    else if overlap size segments then Some 11
    else if not (is_entry size entry) then Some 12
    else if length segments == 0 then Some 13
    else None

-- ---- all of them

abbrev pub broken : (file : List ℕ) (size : ℕ) → Option ℕ
broken file size = option_or (broken_by_header file) (broken_by_segments file size (entry_of file) (loaded_of file))
