-- The bytes of a tail's file: a header, the threads, the memory without its empty rows, and the log. Numbers are low byte
-- first.
use Rattle.std.specs.Prelude.{ℕ, zero, suc, ◌/◌, ◌==◌, Bool, true, false, List, [], ◌∷◌, ◌++◌, length, take, drop}
use Rattle.std.specs.Prelude.{Option, Some, None, if◌then◌else◌}
use Rattle.std.specs.List.{flat_map, list_all}
use Rattle.dl_entry.specs.declared.Request.{Request}
use Rattle.spec_isa.specs.declared.thread.Parts.{Parts}
use Rattle.spec_isa.specs.declared.thread.ThreadStatus.{ThreadStatus}
use Rattle.spec_log.specs.Bytes.{u8, u16, u32, section, log_bytes}
use Rattle.spec_tail.specs.declared.draft.Row.{Row}
use Rattle.spec_tail.specs.Tails.{Tail}

-- "DLRT"
abbrev pub magic : List ℕ
magic = 0x44 ∷ 0x4C ∷ 0x52 ∷ 0x54 ∷ []

-- 255 stands for no thread
abbrev pub last_code : Option ℕ → ℕ
last_code None = 255
last_code (Some thread) = thread

-- whether there is a request, two zero bytes, and the request or zeros
abbrev pub request_bytes : Option Request → List ℕ
request_bytes None = u8 0 ++ u16 0 ++ u32 0 ++ u32 0
request_bytes (Some request) = u8 1 ++ u16 0 ++ u32 request.buf ++ u32 request.len

-- the magic word, the version of the file and a zero byte; then what there is, and the size of the memory
abbrev pub header_bytes : Tail → List ℕ
header_bytes t =
    magic ++ u8 1 ++ u8 0 ++ u16 (length t.threads) ++ u32 t.base ++ u8 (last_code t.last) ++ request_bytes t.request
    ++ u32 (length t.memory)

-- ---- threads

abbrev pub status_code : ThreadStatus → ℕ
status_code ThreadStatus.Live = 0
status_code (ThreadStatus.Ended code) = 1
status_code (ThreadStatus.Fault cause) = 2

-- the code with which it ended, or the cause of its fault
abbrev pub end_code : ThreadStatus → ℕ
end_code ThreadStatus.Live = 0
end_code (ThreadStatus.Ended code) = code
end_code (ThreadStatus.Fault cause) = cause

abbrev pub mask_code : Bool → ℕ
mask_code true = 1
mask_code false = 0

-- register 0, which is 0, has no bytes
abbrev pub thread_bytes : Parts → List ℕ
thread_bytes p =
    u8 (status_code p.status) ++ u8 (mask_code p.mask) ++ u16 0 ++ u32 (end_code p.status) ++ u32 p.pc ++ u32 p.handler
    ++ u32 p.saved_pc ++ u32 p.saved_a0 ++ u32 p.saved_a1 ++ u32 p.commits ++ flat_map u32 (drop 1 p.x)

-- ---- rows of memory

-- so many bytes are a row
abbrev pub row_size : ℕ
row_size = 32

abbrev pub is_empty : List ℕ → Bool
is_empty bytes = list_all (λ byte. byte == 0) bytes

-- so many rows, of which the first has this number: those that aren't empty
abbrev pub rows_from : (number count : ℕ) → (memory : List ℕ) → List Row
rows_from number zero memory = []
rows_from number (suc count) memory =
    let bytes = take row_size memory in
    let rest = rows_from (suc number) count (drop row_size memory) in
    if is_empty bytes then rest else record { number = number; bytes = bytes } ∷ rest

abbrev pub rows_of : (memory : List ℕ) → List Row
rows_of memory = rows_from 0 (length memory / row_size) memory

abbrev pub row_bytes : Row → List ℕ
row_bytes row = u32 row.number ++ row.bytes

-- ---- all of it

abbrev pub tail_bytes : Tail → List ℕ
tail_bytes t = header_bytes t ++ flat_map thread_bytes t.threads ++ section row_bytes (rows_of t.memory) ++ log_bytes t.log
