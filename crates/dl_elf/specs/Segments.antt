-- The segments of a file that are loaded, and the addresses that each takes.
use Rattle.std.specs.Prelude.{ℕ, ◌+◌, ◌*◌, ◌==◌, Bool, ◌&&◌, nat_lt, nat_le, List, map, filter}
use Rattle.std.specs.List.{range_with_len}
use Rattle.dl_elf.specs.declared.segment.Segment.{Segment}
use Rattle.dl_elf.specs.Fields.{word, table_of, count_of}

-- a program header of 32 bytes; its physical address, flags and alignment aren't looked at
abbrev pub segment_at : (file : List ℕ) (place : ℕ) → Segment
segment_at file place = record {
  kind = word file place;
  offset = word file (place + 4);
  address = word file (place + 8);
  file_size = word file (place + 16);
  memory_size = word file (place + 20);
}

-- segments of other kinds are passed over
abbrev pub is_loaded : Segment → Bool
is_loaded segment = segment.kind == 1

-- the loaded ones among the first program headers, in their order
unfoldable pub first_loaded : (file : List ℕ) (headers : ℕ) → List Segment
first_loaded file headers = filter is_loaded (map (λ i. segment_at file (table_of file + 32 * i)) (range_with_len 0 headers))

abbrev pub loaded_of : (file : List ℕ) → List Segment
loaded_of file = first_loaded file (count_of file)

-- a segment has as many addresses as it has bytes in memory
abbrev pub has_address : (address : ℕ) → Segment → Bool
has_address address segment = nat_le segment.address address && nat_lt address (segment.address + segment.memory_size)

-- the first of them are filled from the file
abbrev pub fills : (address : ℕ) → Segment → Bool
fills address segment = has_address address segment && nat_lt address (segment.address + segment.file_size)
