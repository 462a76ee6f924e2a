-- The numbers of records and logs that stand for something: kinds of records, the code of a DMA, and limits.
use Rattle.std.specs.Prelude.{ℕ}

-- ---- kinds of records

-- of an outside call the kind is the call's number
abbrev pub kind_write : ℕ
kind_write = 2

abbrev pub kind_read : ℕ
kind_read = 3

abbrev pub kind_random : ℕ
kind_random = 4

abbrev pub kind_clock : ℕ
kind_clock = 5

-- of a load of a device word: the moment, and the next byte of the input
abbrev pub kind_moment : ℕ
kind_moment = 16

abbrev pub kind_input : ℕ
kind_input = 17

-- ---- limits

-- the bytes of a record
abbrev pub most_bytes : ℕ
most_bytes = 4096

-- the fewest and the most instructions of a standard chunk, and the most in version 1 of logs
abbrev pub least_chunk : ℕ
least_chunk = 16

abbrev pub most_chunk : ℕ
most_chunk = 65536

abbrev pub most_chunk_v1 : ℕ
most_chunk_v1 = 4096

-- the most threads of any sphere, and the most of a plain one, which are also the most in version 1 of logs
abbrev pub most_threads : ℕ
most_threads = 63

abbrev pub plain_threads : ℕ
plain_threads = 15

-- ---- actors

-- a DMA's code, where a thread has its number: in a byte or a text, and in half a byte, as version 1 of logs has it
abbrev pub dma_code : ℕ
dma_code = 63

abbrev pub dma_half : ℕ
dma_half = 15
