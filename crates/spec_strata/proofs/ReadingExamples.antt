-- What the definition of reading makes of whole strata, and of bytes with one fault.
use Rattle.std.proofs.Common.{◌≡◌, ℕ, List, [], ◌∷◌, ◌++◌, Result, Ok, Err, refl}
use Rattle.std.specs.Prelude.{slice_set, take}
use Rattle.dl_entry.specs.declared.Actor.{Actor}
use Rattle.spec_log.specs.declared.fault.Fault.{Fault}
use Rattle.spec_strata.specs.declared.stratum.Stratum.TheVariants.{Chunks, Serial, Dma}
use Rattle.spec_strata.specs.declared.strata.StrataParts.{StrataParts}
use Rattle.spec_strata.specs.Canonical.{canonical}
use Rattle.spec_strata.specs.Bytes.{strata_bytes}
use Rattle.spec_strata.specs.Reading.{read_of}

-- two threads, with chunks of both in one stratum
abbrev two : StrataParts
two =
    record {
      counted = 2;
      threads = 15;
      s = 100;
      strata = Chunks (0 ∷ 1 ∷ []) ∷ Serial 0 ∷ Chunks (1 ∷ 1 ∷ []) ∷ Serial 0 ∷ Serial 1 ∷ [];
      sizes = record { thread = 0; index = 0; size = 3 } ∷ record { thread = 0; index = 2; size = 2 } ∷ record { thread = 1; index = 0; size = 3 } ∷ [];
      interrupts = [];
      inputs = [];
      dmas = [];
    }

abbrev bytes : List ℕ
bytes =
    0x44 ∷ 0x4C ∷ 0x52 ∷ 0x53 ∷ 1 ∷ 2 ∷ 15 ∷ 0 ∷ 100 ∷ 0 ∷ 0 ∷ 0 ∷ 5 ∷ 0 ∷ 0 ∷ 0
    ∷ 0 ∷ 0 ∷ 1 ∷ 1 ∷ 0 ∷ 0 ∷ 1 ∷ 1 ∷ 1 ∷ 0 ∷ 1 ∷ 1
    ∷ 3 ∷ 0 ∷ 0 ∷ 0 ∷ 0 ∷ 0 ∷ 0 ∷ 0 ∷ 0 ∷ 3 ∷ 0 ∷ 0 ∷ 0 ∷ 0 ∷ 2 ∷ 0 ∷ 0 ∷ 0 ∷ 2 ∷ 0 ∷ 0 ∷ 0 ∷ 1 ∷ 0 ∷ 0 ∷ 0 ∷ 0 ∷ 3 ∷ 0 ∷ 0 ∷ 0
    ∷ 0 ∷ 0 ∷ 0 ∷ 0 ∷ 0 ∷ 0 ∷ 0 ∷ 0 ∷ 0 ∷ 0 ∷ 0 ∷ 0 ∷ []

-- the strata of two threads are written as exactly these bytes
pub strata_bytes-two : strata_bytes two ≡ bytes
strata_bytes-two = refl

-- those bytes are read back as the strata of two threads
pub read_of-two : read_of bytes ≡ Ok two
read_of-two = refl

-- in one stratum the threads rise
pub canonical-two : (canonical two).order
    ≡ Actor.Thread 1 ∷ Actor.Thread 0 ∷ Actor.Thread 0 ∷ Actor.Thread 1 ∷ Actor.Thread 0 ∷ Actor.Thread 1 ∷ []
canonical-two = refl

-- the canonical log of those strata has six commits
pub canonical-count : (canonical two).count ≡ 6
canonical-count = refl

-- with an entry in each section, of the last of 63 threads
abbrev many : StrataParts
many =
    record {
      counted = 63;
      threads = 63;
      s = 65536;
      strata = Serial 62 ∷ Dma ∷ [];
      sizes = record { thread = 62; index = 0; size = 65536 } ∷ [];
      interrupts = record { thread = 62; index = 1; value = 5 } ∷ [];
      inputs = record { kind = 3; result = 2; bytes = 0x93 ∷ 8 ∷ [] } ∷ [];
      dmas = record { position = 256; bytes = 0x41 ∷ [] } ∷ [];
    }

-- strata with an entry in each section are read back as they were written
pub read_of-many : read_of (strata_bytes many) ≡ Ok many
read_of-many = refl

-- ---- faults

abbrev fault : ℕ → ℕ → Result StrataParts Fault
fault number offset = Err (record { number = number; offset = offset })

-- the last byte is missing, or there is one more
pub read_of-cut : read_of (take 70 bytes) ≡ fault 1 70
read_of-cut = refl

-- a byte after the last section is refused, at that byte
pub read_of-a_byte_more : read_of (bytes ++ 0 ∷ []) ≡ fault 7 71
read_of-a_byte_more = refl

-- the magic word, the version
pub read_of-other_magic : read_of (slice_set bytes 0 0) ≡ fault 2 0
read_of-other_magic = refl

-- a file of version 2 is refused at its version
pub read_of-version_2 : read_of (slice_set bytes 4 2) ≡ fault 3 4
read_of-version_2 = refl

-- no thread, or more than 63 are counted; or more than the sphere may have, which are 15 or 63
pub read_of-no_thread : read_of (slice_set bytes 5 0) ≡ fault 5 5
read_of-no_thread = refl

-- a count of 64 threads is refused, at the count
pub read_of-thread_64 : read_of (slice_set bytes 5 64) ≡ fault 5 5
read_of-thread_64 = refl

-- more counted threads than the sphere may have are refused
pub read_of-too_many : read_of (slice_set bytes 5 16) ≡ fault 5 6
read_of-too_many = refl

-- a sphere that may have 16 threads is refused, as only 15 and 63 are allowed
pub read_of-threads_16 : read_of (slice_set bytes 6 16) ≡ fault 5 6
read_of-threads_16 = refl

-- chunks of fewer than 16 instructions
pub read_of-small : read_of (slice_set bytes 8 15) ≡ fault 5 8
read_of-small = refl

-- no such stratum, chunks that are none, a thread that isn't counted
pub read_of-stratum_3 : read_of (slice_set bytes 16 3) ≡ fault 5 16
read_of-stratum_3 = refl

-- chunks that are none of any thread are refused, at the stratum's first byte
pub read_of-no_chunks : read_of (slice_set bytes 18 0) ≡ fault 5 16
read_of-no_chunks = refl

-- a serial step of a thread that isn't counted is refused
pub read_of-thread_2 : read_of (slice_set bytes 20 2) ≡ fault 5 20
read_of-thread_2 = refl
