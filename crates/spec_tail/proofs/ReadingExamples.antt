-- What the definition of reading makes of a whole tail, and of bytes with one fault.
use Rattle.std.proofs.Common.{◌≡◌, ℕ, List, [], ◌∷◌, ◌++◌, false, Some, None, Result, Ok, Err, refl}
use Rattle.std.specs.Prelude.{slice_set, take, drop, replicate}
use Rattle.dl_entry.specs.declared.Actor.{Actor}
use Rattle.std.specs.List.{flat_map}
use Rattle.spec_isa.specs.Threads.{started}
use Rattle.spec_isa.specs.declared.thread.ThreadStatus.{ThreadStatus}
use Rattle.spec_log.specs.declared.Fault.{Fault}
use Rattle.spec_log.specs.declared.ModeName.{ModeName}
use Rattle.spec_log.specs.declared.Sizes.{Sizes}
use Rattle.spec_tail.specs.Bytes.{thread_bytes, tail_bytes}
use Rattle.spec_tail.specs.Reading.{memory_of, read_of}
use Rattle.spec_tail.specs.Tails.{Tail}

-- two threads, of which one has ended, after 4 commits; and the log of 2 commits
abbrev two : Tail
two =
    record {
      base = 4;
      threads = record { pc = 24; x = 0 ∷ 0 ∷ 0 ∷ 0 ∷ 0 ∷ 9 ∷ 0 ∷ 0 ∷ 0 ∷ 0 ∷ 1 ∷ 0 ∷ 0 ∷ 0 ∷ 0 ∷ 0 ∷ 0 ∷ 0 ∷ 0 ∷ 0 ∷ 0 ∷ 0 ∷ 0 ∷ 0 ∷ 0 ∷ 0 ∷ 0 ∷ 0 ∷ 0 ∷ 0 ∷ 0 ∷ 0 ∷ []; reservation = None; handler = 0; mask = false; saved_pc = 0; saved_a0 = 0; saved_a1 = 0; status = ThreadStatus.Live; commits = 3 } ∷ record { pc = 44; x = 0 ∷ 0 ∷ 0 ∷ 0 ∷ 0 ∷ 0 ∷ 9 ∷ 0 ∷ 0 ∷ 0 ∷ 0 ∷ 0 ∷ 0 ∷ 0 ∷ 0 ∷ 0 ∷ 0 ∷ 0 ∷ 0 ∷ 0 ∷ 0 ∷ 0 ∷ 0 ∷ 0 ∷ 0 ∷ 0 ∷ 0 ∷ 0 ∷ 0 ∷ 0 ∷ 0 ∷ 0 ∷ []; reservation = None; handler = 0; mask = false; saved_pc = 0; saved_a0 = 0; saved_a1 = 0; status = ThreadStatus.Live; commits = 1 } ∷ [];
      memory = memory_of 4096 (record { number = 0; bytes = 147 ∷ 8 ∷ 16 ∷ 0 ∷ 19 ∷ 5 ∷ 0 ∷ 2 ∷ 19 ∷ 6 ∷ 0 ∷ 0 ∷ 115 ∷ 0 ∷ 0 ∷ 0 ∷ 131 ∷ 34 ∷ 0 ∷ 16 ∷ 147 ∷ 8 ∷ 0 ∷ 0 ∷ 115 ∷ 0 ∷ 0 ∷ 0 ∷ 19 ∷ 0 ∷ 0 ∷ 0 ∷ [] } ∷ record { number = 1; bytes = 19 ∷ 3 ∷ 144 ∷ 0 ∷ 35 ∷ 32 ∷ 96 ∷ 16 ∷ 147 ∷ 8 ∷ 0 ∷ 0 ∷ 115 ∷ 0 ∷ 0 ∷ 0 ∷ 0 ∷ 0 ∷ 0 ∷ 0 ∷ 0 ∷ 0 ∷ 0 ∷ 0 ∷ 0 ∷ 0 ∷ 0 ∷ 0 ∷ 0 ∷ 0 ∷ 0 ∷ 0 ∷ [] } ∷ record { number = 8; bytes = 9 ∷ 0 ∷ 0 ∷ 0 ∷ 0 ∷ 0 ∷ 0 ∷ 0 ∷ 0 ∷ 0 ∷ 0 ∷ 0 ∷ 0 ∷ 0 ∷ 0 ∷ 0 ∷ 0 ∷ 0 ∷ 0 ∷ 0 ∷ 0 ∷ 0 ∷ 0 ∷ 0 ∷ 0 ∷ 0 ∷ 0 ∷ 0 ∷ 0 ∷ 0 ∷ 0 ∷ 0 ∷ [] } ∷ []);
      request = None;
      last = Some 0;
      log = record { version = 2; threads = 63; mode = ModeName.OrderSize; s = 100; count = 2; order = Actor.Thread 0 ∷ Actor.Thread 1 ∷ []; sizes = Sizes.Each (0 ∷ 0 ∷ []); interrupts = []; inputs = []; dmas = [] };
    }

abbrev bytes : List ℕ
bytes =
    68 ∷ 76 ∷ 82 ∷ 84 ∷ 1 ∷ 0 ∷ 2 ∷ 0 ∷ 4 ∷ 0 ∷ 0 ∷ 0 ∷ 0 ∷ 0 ∷ 0 ∷ 0 ∷ 0 ∷ 0 ∷ 0 ∷ 0 ∷ 0 ∷ 0 ∷ 0 ∷ 0
    ∷ 0 ∷ 16 ∷ 0 ∷ 0 ∷ 0 ∷ 0 ∷ 0 ∷ 0 ∷ 0 ∷ 0 ∷ 0 ∷ 0 ∷ 24 ∷ 0 ∷ 0 ∷ 0 ∷ 0 ∷ 0 ∷ 0 ∷ 0 ∷ 0 ∷ 0 ∷ 0 ∷ 0
    ∷ 0 ∷ 0 ∷ 0 ∷ 0 ∷ 0 ∷ 0 ∷ 0 ∷ 0 ∷ 3 ∷ 0 ∷ 0 ∷ 0 ∷ 0 ∷ 0 ∷ 0 ∷ 0 ∷ 0 ∷ 0 ∷ 0 ∷ 0 ∷ 0 ∷ 0 ∷ 0 ∷ 0
    ∷ 0 ∷ 0 ∷ 0 ∷ 0 ∷ 9 ∷ 0 ∷ 0 ∷ 0 ∷ 0 ∷ 0 ∷ 0 ∷ 0 ∷ 0 ∷ 0 ∷ 0 ∷ 0 ∷ 0 ∷ 0 ∷ 0 ∷ 0 ∷ 0 ∷ 0 ∷ 0 ∷ 0
    ∷ 1 ∷ 0 ∷ 0 ∷ 0 ∷ 0 ∷ 0 ∷ 0 ∷ 0 ∷ 0 ∷ 0 ∷ 0 ∷ 0 ∷ 0 ∷ 0 ∷ 0 ∷ 0 ∷ 0 ∷ 0 ∷ 0 ∷ 0 ∷ 0 ∷ 0 ∷ 0 ∷ 0
    ∷ 0 ∷ 0 ∷ 0 ∷ 0 ∷ 0 ∷ 0 ∷ 0 ∷ 0 ∷ 0 ∷ 0 ∷ 0 ∷ 0 ∷ 0 ∷ 0 ∷ 0 ∷ 0 ∷ 0 ∷ 0 ∷ 0 ∷ 0 ∷ 0 ∷ 0 ∷ 0 ∷ 0
    ∷ 0 ∷ 0 ∷ 0 ∷ 0 ∷ 0 ∷ 0 ∷ 0 ∷ 0 ∷ 0 ∷ 0 ∷ 0 ∷ 0 ∷ 0 ∷ 0 ∷ 0 ∷ 0 ∷ 0 ∷ 0 ∷ 0 ∷ 0 ∷ 0 ∷ 0 ∷ 0 ∷ 0
    ∷ 0 ∷ 0 ∷ 0 ∷ 0 ∷ 0 ∷ 0 ∷ 0 ∷ 0 ∷ 0 ∷ 0 ∷ 0 ∷ 0 ∷ 0 ∷ 0 ∷ 0 ∷ 0 ∷ 0 ∷ 0 ∷ 0 ∷ 0 ∷ 0 ∷ 0 ∷ 0 ∷ 0
    ∷ 44 ∷ 0 ∷ 0 ∷ 0 ∷ 0 ∷ 0 ∷ 0 ∷ 0 ∷ 0 ∷ 0 ∷ 0 ∷ 0 ∷ 0 ∷ 0 ∷ 0 ∷ 0 ∷ 0 ∷ 0 ∷ 0 ∷ 0 ∷ 1 ∷ 0 ∷ 0 ∷ 0
    ∷ 0 ∷ 0 ∷ 0 ∷ 0 ∷ 0 ∷ 0 ∷ 0 ∷ 0 ∷ 0 ∷ 0 ∷ 0 ∷ 0 ∷ 0 ∷ 0 ∷ 0 ∷ 0 ∷ 0 ∷ 0 ∷ 0 ∷ 0 ∷ 9 ∷ 0 ∷ 0 ∷ 0
    ∷ 0 ∷ 0 ∷ 0 ∷ 0 ∷ 0 ∷ 0 ∷ 0 ∷ 0 ∷ 0 ∷ 0 ∷ 0 ∷ 0 ∷ 0 ∷ 0 ∷ 0 ∷ 0 ∷ 0 ∷ 0 ∷ 0 ∷ 0 ∷ 0 ∷ 0 ∷ 0 ∷ 0
    ∷ 0 ∷ 0 ∷ 0 ∷ 0 ∷ 0 ∷ 0 ∷ 0 ∷ 0 ∷ 0 ∷ 0 ∷ 0 ∷ 0 ∷ 0 ∷ 0 ∷ 0 ∷ 0 ∷ 0 ∷ 0 ∷ 0 ∷ 0 ∷ 0 ∷ 0 ∷ 0 ∷ 0
    ∷ 0 ∷ 0 ∷ 0 ∷ 0 ∷ 0 ∷ 0 ∷ 0 ∷ 0 ∷ 0 ∷ 0 ∷ 0 ∷ 0 ∷ 0 ∷ 0 ∷ 0 ∷ 0 ∷ 0 ∷ 0 ∷ 0 ∷ 0 ∷ 0 ∷ 0 ∷ 0 ∷ 0
    ∷ 0 ∷ 0 ∷ 0 ∷ 0 ∷ 0 ∷ 0 ∷ 0 ∷ 0 ∷ 0 ∷ 0 ∷ 0 ∷ 0 ∷ 0 ∷ 0 ∷ 0 ∷ 0 ∷ 0 ∷ 0 ∷ 0 ∷ 0 ∷ 0 ∷ 0 ∷ 0 ∷ 0
    ∷ 0 ∷ 0 ∷ 0 ∷ 0 ∷ 3 ∷ 0 ∷ 0 ∷ 0 ∷ 0 ∷ 0 ∷ 0 ∷ 0 ∷ 147 ∷ 8 ∷ 16 ∷ 0 ∷ 19 ∷ 5 ∷ 0 ∷ 2 ∷ 19 ∷ 6 ∷ 0 ∷ 0
    ∷ 115 ∷ 0 ∷ 0 ∷ 0 ∷ 131 ∷ 34 ∷ 0 ∷ 16 ∷ 147 ∷ 8 ∷ 0 ∷ 0 ∷ 115 ∷ 0 ∷ 0 ∷ 0 ∷ 19 ∷ 0 ∷ 0 ∷ 0 ∷ 1 ∷ 0 ∷ 0 ∷ 0
    ∷ 19 ∷ 3 ∷ 144 ∷ 0 ∷ 35 ∷ 32 ∷ 96 ∷ 16 ∷ 147 ∷ 8 ∷ 0 ∷ 0 ∷ 115 ∷ 0 ∷ 0 ∷ 0 ∷ 0 ∷ 0 ∷ 0 ∷ 0 ∷ 0 ∷ 0 ∷ 0 ∷ 0
    ∷ 0 ∷ 0 ∷ 0 ∷ 0 ∷ 0 ∷ 0 ∷ 0 ∷ 0 ∷ 8 ∷ 0 ∷ 0 ∷ 0 ∷ 9 ∷ 0 ∷ 0 ∷ 0 ∷ 0 ∷ 0 ∷ 0 ∷ 0 ∷ 0 ∷ 0 ∷ 0 ∷ 0
    ∷ 0 ∷ 0 ∷ 0 ∷ 0 ∷ 0 ∷ 0 ∷ 0 ∷ 0 ∷ 0 ∷ 0 ∷ 0 ∷ 0 ∷ 0 ∷ 0 ∷ 0 ∷ 0 ∷ 0 ∷ 0 ∷ 0 ∷ 0 ∷ 68 ∷ 76 ∷ 82 ∷ 78
    ∷ 2 ∷ 0 ∷ 63 ∷ 0 ∷ 100 ∷ 0 ∷ 0 ∷ 0 ∷ 2 ∷ 0 ∷ 0 ∷ 0 ∷ 2 ∷ 0 ∷ 0 ∷ 0 ∷ 0 ∷ 1 ∷ 2 ∷ 0 ∷ 0 ∷ 0 ∷ 0 ∷ 0
    ∷ 0 ∷ 0 ∷ 0 ∷ 0 ∷ 0 ∷ 0 ∷ 0 ∷ 0 ∷ 0 ∷ 0 ∷ 0 ∷ 0 ∷ 0 ∷ 0 ∷ 0 ∷ 0 ∷ 0 ∷ 0 ∷ []

-- the tail of two threads is written as these bytes
pub tail_bytes-two : tail_bytes two ≡ bytes
tail_bytes-two = refl

-- these bytes are read as the tail of two threads
pub read_of-two : read_of bytes ≡ Ok two
read_of-two = refl

abbrev fault : ℕ → ℕ → Result Tail Fault
fault number offset = Err (record { number = number; offset = offset })

-- the bytes with another one at an offset
abbrev spoilt : ℕ → ℕ → List ℕ
spoilt at byte = slice_set bytes at byte

-- another magic word
pub read_of-magic : read_of (spoilt 3 83) ≡ fault 2 0
read_of-magic = refl

-- another version of the file
pub read_of-version : read_of (spoilt 4 2) ≡ fault 3 4
read_of-version = refl

-- a spare byte
pub read_of-spare : read_of (spoilt 5 1) ≡ fault 5 5
read_of-spare = refl

-- no thread
pub read_of-no_threads : read_of (spoilt 6 0) ≡ fault 5 6
read_of-no_threads = refl

-- 64 threads
pub read_of-threads_64 : read_of (spoilt 6 64) ≡ fault 5 6
read_of-threads_64 = refl

-- a base past 2^24 commits
pub read_of-base : read_of (spoilt 11 2) ≡ fault 5 8
read_of-base = refl

-- a last thread that there is not
pub read_of-last : read_of (spoilt 12 2) ≡ fault 5 12
read_of-last = refl

-- a request flag of 2
pub read_of-flag : read_of (spoilt 13 2) ≡ fault 5 13
read_of-flag = refl

-- a buffer without a request
pub read_of-buffer : read_of (spoilt 16 4) ≡ fault 5 16
read_of-buffer = refl

-- a memory of less than a page
pub read_of-size : read_of (spoilt 25 8) ≡ fault 5 24
read_of-size = refl

-- a status of 3
pub read_of-status : read_of (spoilt 28 3) ≡ fault 5 28
read_of-status = refl

-- a mask of 2
pub read_of-mask : read_of (spoilt 29 2) ≡ fault 5 29
read_of-mask = refl

-- a pc that is no multiple of 4
pub read_of-pc : read_of (spoilt 36 2) ≡ fault 5 36
read_of-pc = refl

-- a saved value without a mask
pub read_of-saved : read_of (spoilt 48 1) ≡ fault 5 48
read_of-saved = refl

-- more commits than the base
pub read_of-commits : read_of (spoilt 56 5) ≡ fault 5 56
read_of-commits = refl

-- a row of an earlier number
pub read_of-rows_fall : read_of (spoilt 380 0) ≡ fault 6 380
read_of-rows_fall = refl

-- a row of zeros
pub read_of-empty_row : read_of (spoilt 420 0) ≡ fault 5 420
read_of-empty_row = refl

-- a row past the memory
pub read_of-row_past : read_of (spoilt 344 128) ≡ fault 5 344
read_of-row_past = refl

-- a log of version 1
pub read_of-first_version : read_of (spoilt 456 1) ≡ fault 3 456
read_of-first_version = refl

-- the bytes end inside a thread
pub read_of-cut : read_of (take 200 bytes) ≡ fault 1 200
read_of-cut = refl

-- a byte after the last section
pub read_of-more : read_of (bytes ++ 0 ∷ []) ≡ fault 7 498
read_of-more = refl

-- with 16 threads, and a log that may have 15
pub read_of-few_threads : read_of
    (take 6 bytes ++ 16 ∷ take 21 (drop 7 bytes) ++ flat_map thread_bytes (replicate 16 (started 0)) ++ drop 340 (spoilt 458 15))
    ≡ fault 5 2642
read_of-few_threads = refl

-- more than 2^24 commits with those before the base
pub read_of-many_commits : read_of (slice_set (slice_set (spoilt 8 255) 9 255) 10 255) ≡ fault 5 464
read_of-many_commits = refl
