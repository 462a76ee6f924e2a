-- What the definition of reading makes of whole logs, and of bytes with one fault.
use Rattle.std.proofs.Common.{◌≡◌, ℕ, [], ◌∷◌, ◌^◌, Result, Ok, Err, refl}
use Rattle.dl_entry.specs.declared.actor.Actor.TheVariants.{Thread, Dma}
use Rattle.spec_log.specs.declared.mode_name.ModeName.TheVariants.{OrderSize, OrderOnly, Picolog}
use Rattle.spec_log.specs.declared.sizes.Sizes.TheVariants.{Each, Short}
use Rattle.spec_log.specs.declared.log.LogParts.{LogParts}
use Rattle.spec_log.specs.Bytes.{log_bytes}
use Rattle.spec_log.specs.declared.fault.Fault.{Fault}
use Rattle.spec_log.specs.Reading.{read_of}

-- a log with an entry in each section
abbrev full : LogParts
full =
    record {
      version = 1;
      threads = 15;
      mode = OrderOnly;
      s = 4096;
      count = 3;
      order = Thread 14 ∷ Dma ∷ Thread 0 ∷ [];
      sizes = Short (record { thread = 0; index = 0x01020304; size = 4096 } ∷ record { thread = 14; index = 0; size = 1 } ∷ []);
      interrupts = record { thread = 3; index = 7; value = 0xFFFFFFFF } ∷ record { thread = 3; index = 8; value = 0 } ∷ [];
      inputs = record { kind = 3; result = 2; bytes = 0x93 ∷ 8 ∷ [] } ∷ record { kind = 17; result = 0; bytes = [] } ∷ [];
      dmas = record { position = 1; bytes = 0x41 ∷ 0xFF ∷ [] } ∷ [];
    }

-- the bytes of this order-only log are read as the log itself
pub read_of-full : read_of (log_bytes full) ≡ Ok full
read_of-full = refl

abbrev sized : LogParts
sized =
    record {
      version = 1;
      threads = 15;
      mode = OrderSize;
      s = 16;
      count = 2;
      order = Dma ∷ Thread 1 ∷ [];
      sizes = Each (0 ∷ 16 ∷ []);
      interrupts = [];
      inputs = [];
      dmas = [];
    }

-- the bytes of an order-size log without interrupts and records are read as the log itself
pub read_of-sized : read_of (log_bytes sized) ≡ Ok sized
read_of-sized = refl

abbrev in_turn : LogParts
in_turn = record sized { mode = Picolog; count = 2 ^ 24; order = []; sizes = Short [] }

-- the bytes of a picolog log with the most commits are read as the log itself
pub read_of-in_turn : read_of (log_bytes in_turn) ≡ Ok in_turn
read_of-in_turn = refl

abbrev fault : ℕ → ℕ → Result LogParts Fault
fault number offset = Err (record { number = number; offset = offset })

-- a byte after the last section
pub read_of-a_byte_more : read_of
    (0x44 ∷ 0x4C ∷ 0x52 ∷ 0x4E ∷ 1 ∷ 0 ∷ 0 ∷ 0 ∷ 0x64 ∷ 0 ∷ 0 ∷ 0 ∷ 2 ∷ 0 ∷ 0 ∷ 0
    ∷ 2 ∷ 0 ∷ 0 ∷ 0 ∷ 0 ∷ 2 ∷ 0 ∷ 0 ∷ 0 ∷ 2 ∷ 0 ∷ 0 ∷ 0 ∷ 0 ∷ 0 ∷ 0
    ∷ 0 ∷ 0 ∷ 0 ∷ 0 ∷ 0 ∷ 0 ∷ 0 ∷ 0 ∷ 0 ∷ 0 ∷ [])
    ≡ fault 7 41
read_of-a_byte_more = refl

-- the bytes end inside the count of the order
pub read_of-cut_in_the_first_count : read_of
    (0x44 ∷ 0x4C ∷ 0x52 ∷ 0x4E ∷ 1 ∷ 0 ∷ 0 ∷ 0 ∷ 0x64 ∷ 0 ∷ 0 ∷ 0 ∷ 2 ∷ 0 ∷ 0 ∷ 0 ∷ [])
    ≡ fault 1 16
read_of-cut_in_the_first_count = refl

-- another magic word
pub read_of-other_magic : read_of
    (0x45 ∷ 0x4C ∷ 0x52 ∷ 0x4E ∷ 1 ∷ 0 ∷ 0 ∷ 0 ∷ 0x64 ∷ 0 ∷ 0 ∷ 0 ∷ 2 ∷ 0 ∷ 0 ∷ 0
    ∷ 2 ∷ 0 ∷ 0 ∷ 0 ∷ 0 ∷ 2 ∷ 0 ∷ 0 ∷ 0 ∷ 2 ∷ 0 ∷ 0 ∷ 0 ∷ 0 ∷ 0 ∷ 0
    ∷ 0 ∷ 0 ∷ 0 ∷ 0 ∷ 0 ∷ 0 ∷ 0 ∷ 0 ∷ 0 ∷ [])
    ≡ fault 2 0
read_of-other_magic = refl

-- a version that there isn't
pub read_of-version_3 : read_of
    (0x44 ∷ 0x4C ∷ 0x52 ∷ 0x4E ∷ 3 ∷ 0 ∷ 0 ∷ 0 ∷ 0x64 ∷ 0 ∷ 0 ∷ 0 ∷ 2 ∷ 0 ∷ 0 ∷ 0
    ∷ 2 ∷ 0 ∷ 0 ∷ 0 ∷ 0 ∷ 2 ∷ 0 ∷ 0 ∷ 0 ∷ 2 ∷ 0 ∷ 0 ∷ 0 ∷ 0 ∷ 0 ∷ 0
    ∷ 0 ∷ 0 ∷ 0 ∷ 0 ∷ 0 ∷ 0 ∷ 0 ∷ 0 ∷ 0 ∷ [])
    ≡ fault 3 4
read_of-version_3 = refl

-- no mode
pub read_of-mode_3 : read_of
    (0x44 ∷ 0x4C ∷ 0x52 ∷ 0x4E ∷ 1 ∷ 3 ∷ 0 ∷ 0 ∷ 0x64 ∷ 0 ∷ 0 ∷ 0 ∷ 2 ∷ 0 ∷ 0 ∷ 0
    ∷ 2 ∷ 0 ∷ 0 ∷ 0 ∷ 0 ∷ 2 ∷ 0 ∷ 0 ∷ 0 ∷ 2 ∷ 0 ∷ 0 ∷ 0 ∷ 0 ∷ 0 ∷ 0
    ∷ 0 ∷ 0 ∷ 0 ∷ 0 ∷ 0 ∷ 0 ∷ 0 ∷ 0 ∷ 0 ∷ [])
    ≡ fault 4 5
read_of-mode_3 = refl

-- a header's spare byte that isn't 0
pub read_of-spare_header_byte : read_of
    (0x44 ∷ 0x4C ∷ 0x52 ∷ 0x4E ∷ 1 ∷ 0 ∷ 1 ∷ 0 ∷ 0x64 ∷ 0 ∷ 0 ∷ 0 ∷ 2 ∷ 0 ∷ 0 ∷ 0
    ∷ 2 ∷ 0 ∷ 0 ∷ 0 ∷ 0 ∷ 2 ∷ 0 ∷ 0 ∷ 0 ∷ 2 ∷ 0 ∷ 0 ∷ 0 ∷ 0 ∷ 0 ∷ 0
    ∷ 0 ∷ 0 ∷ 0 ∷ 0 ∷ 0 ∷ 0 ∷ 0 ∷ 0 ∷ 0 ∷ [])
    ≡ fault 5 6
read_of-spare_header_byte = refl

-- a standard chunk of 15
pub read_of-small_chunk : read_of
    (0x44 ∷ 0x4C ∷ 0x52 ∷ 0x4E ∷ 1 ∷ 0 ∷ 0 ∷ 0 ∷ 15 ∷ 0 ∷ 0 ∷ 0 ∷ 2 ∷ 0 ∷ 0 ∷ 0
    ∷ 2 ∷ 0 ∷ 0 ∷ 0 ∷ 0 ∷ 2 ∷ 0 ∷ 0 ∷ 0 ∷ 2 ∷ 0 ∷ 0 ∷ 0 ∷ 0 ∷ 0 ∷ 0
    ∷ 0 ∷ 0 ∷ 0 ∷ 0 ∷ 0 ∷ 0 ∷ 0 ∷ 0 ∷ 0 ∷ [])
    ≡ fault 5 8
read_of-small_chunk = refl

-- more than 2^24 commits
pub read_of-too_many_commits : read_of
    (0x44 ∷ 0x4C ∷ 0x52 ∷ 0x4E ∷ 1 ∷ 2 ∷ 0 ∷ 0 ∷ 0x64 ∷ 0 ∷ 0 ∷ 0 ∷ 1 ∷ 0 ∷ 0 ∷ 1
    ∷ 0 ∷ 0 ∷ 0 ∷ 0 ∷ 0 ∷ 0 ∷ 0 ∷ 0 ∷ 0 ∷ 0 ∷ 0 ∷ 0 ∷ 0 ∷ 0 ∷ 0 ∷ 0
    ∷ 1 ∷ 0 ∷ 0 ∷ 0 ∷ 2 ∷ 0 ∷ 0 ∷ 0 ∷ 2 ∷ 0 ∷ 0x41 ∷ 0x42 ∷ [])
    ≡ fault 5 12
read_of-too_many_commits = refl

-- three actors for two commits
pub read_of-order_of_three : read_of
    (0x44 ∷ 0x4C ∷ 0x52 ∷ 0x4E ∷ 1 ∷ 0 ∷ 0 ∷ 0 ∷ 0x64 ∷ 0 ∷ 0 ∷ 0 ∷ 2 ∷ 0 ∷ 0 ∷ 0
    ∷ 3 ∷ 0 ∷ 0 ∷ 0 ∷ 0 ∷ 2 ∷ 0 ∷ 0 ∷ 0 ∷ 2 ∷ 0 ∷ 0 ∷ 0 ∷ 0 ∷ 0 ∷ 0
    ∷ 0 ∷ 0 ∷ 0 ∷ 0 ∷ 0 ∷ 0 ∷ 0 ∷ 0 ∷ 0 ∷ [])
    ≡ fault 5 16
read_of-order_of_three = refl

-- a size over the standard chunk's
pub read_of-size_over_s : read_of
    (0x44 ∷ 0x4C ∷ 0x52 ∷ 0x4E ∷ 1 ∷ 0 ∷ 0 ∷ 0 ∷ 0x64 ∷ 0 ∷ 0 ∷ 0 ∷ 2 ∷ 0 ∷ 0 ∷ 0
    ∷ 2 ∷ 0 ∷ 0 ∷ 0 ∷ 0 ∷ 2 ∷ 0 ∷ 0 ∷ 0 ∷ 0x65 ∷ 0 ∷ 0 ∷ 0 ∷ 0 ∷ 0 ∷ 0
    ∷ 0 ∷ 0 ∷ 0 ∷ 0 ∷ 0 ∷ 0 ∷ 0 ∷ 0 ∷ 0 ∷ [])
    ≡ fault 5 25
read_of-size_over_s = refl

-- a spare half byte that isn't 0
pub read_of-spare_half_byte : read_of
    (0x44 ∷ 0x4C ∷ 0x52 ∷ 0x4E ∷ 1 ∷ 0 ∷ 0 ∷ 0 ∷ 0x64 ∷ 0 ∷ 0 ∷ 0 ∷ 3 ∷ 0 ∷ 0 ∷ 0
    ∷ 3 ∷ 0 ∷ 0 ∷ 0 ∷ 0 ∷ 0x10 ∷ 3 ∷ 0 ∷ 0 ∷ 0 ∷ 3 ∷ 0 ∷ 2 ∷ 0 ∷ 0 ∷ 0
    ∷ 0 ∷ 0 ∷ 0 ∷ 0 ∷ 0 ∷ 0 ∷ 0 ∷ 0 ∷ 0 ∷ 0 ∷ 0 ∷ 0 ∷ [])
    ≡ fault 5 21
read_of-spare_half_byte = refl

-- the third size is of an earlier thread than the second
pub read_of-unsorted_sizes : read_of
    (0x44 ∷ 0x4C ∷ 0x52 ∷ 0x4E ∷ 1 ∷ 1 ∷ 0 ∷ 0 ∷ 0x10 ∷ 0 ∷ 0 ∷ 0 ∷ 7 ∷ 0 ∷ 0 ∷ 0
    ∷ 7 ∷ 0 ∷ 0 ∷ 0 ∷ 0 ∷ 0x11 ∷ 0x11 ∷ 0 ∷ 5 ∷ 0 ∷ 0 ∷ 0 ∷ 0 ∷ 2 ∷ 0 ∷ 0
    ∷ 0 ∷ 8 ∷ 0 ∷ 1 ∷ 1 ∷ 0 ∷ 0 ∷ 0 ∷ 2 ∷ 0 ∷ 1 ∷ 0 ∷ 0 ∷ 0 ∷ 0 ∷ 2
    ∷ 0 ∷ 1 ∷ 2 ∷ 0 ∷ 0 ∷ 0 ∷ 2 ∷ 0 ∷ 1 ∷ 3 ∷ 0 ∷ 0 ∷ 0 ∷ 2 ∷ 0 ∷ 0
    ∷ 0 ∷ 0 ∷ 0 ∷ 0 ∷ 0 ∷ 0 ∷ 0 ∷ 0 ∷ 0 ∷ 0 ∷ 0 ∷ [])
    ≡ fault 6 42
read_of-unsorted_sizes = refl

-- the second interrupt is of the same moment as the first
pub read_of-unsorted_interrupts : read_of
    (0x44 ∷ 0x4C ∷ 0x52 ∷ 0x4E ∷ 1 ∷ 0 ∷ 0 ∷ 0 ∷ 0x64 ∷ 0 ∷ 0 ∷ 0 ∷ 2 ∷ 0 ∷ 0 ∷ 0
    ∷ 2 ∷ 0 ∷ 0 ∷ 0 ∷ 0 ∷ 2 ∷ 0 ∷ 0 ∷ 0 ∷ 2 ∷ 0 ∷ 0 ∷ 0 ∷ 2 ∷ 0 ∷ 0
    ∷ 0 ∷ 1 ∷ 2 ∷ 0 ∷ 0 ∷ 0 ∷ 5 ∷ 0 ∷ 0 ∷ 0 ∷ 1 ∷ 2 ∷ 0 ∷ 0 ∷ 0 ∷ 3
    ∷ 0 ∷ 0 ∷ 0 ∷ 0 ∷ 0 ∷ 0 ∷ 0 ∷ 0 ∷ 0 ∷ 0 ∷ 0 ∷ [])
    ≡ fault 6 42
read_of-unsorted_interrupts = refl

-- the same log in version 2, and one with threads past 15
abbrev full_in_2 : LogParts
full_in_2 = record full { version = 2 }

-- the bytes of this log in version 2 are read as the log itself
pub read_of-full_in_2 : read_of (log_bytes full_in_2) ≡ Ok full_in_2
read_of-full_in_2 = refl

abbrev many : LogParts
many =
    record {
      version = 2;
      threads = 63;
      mode = OrderSize;
      s = 65536;
      count = 3;
      order = Thread 62 ∷ Dma ∷ Thread 15 ∷ [];
      sizes = Each (65536 ∷ 0 ∷ 7 ∷ []);
      interrupts = record { thread = 62; index = 0; value = 5 } ∷ [];
      inputs = [];
      dmas = record { position = 1; bytes = [] } ∷ [];
    }

-- the bytes of a log that may have 63 threads are read as the log itself
pub read_of-many : read_of (log_bytes many) ≡ Ok many
read_of-many = refl

-- a log of version 2 may have 15 or 63 threads
pub read_of-threads_16 : read_of
    (0x44 ∷ 0x4C ∷ 0x52 ∷ 0x4E ∷ 2 ∷ 0 ∷ 16 ∷ 0 ∷ 0x64 ∷ 0 ∷ 0 ∷ 0 ∷ 0 ∷ 0 ∷ 0 ∷ 0 ∷ []) ≡ fault 5 6
read_of-threads_16 = refl

-- where it may have 15, a byte of 15 is no actor
pub read_of-actor_15 : read_of
    (0x44 ∷ 0x4C ∷ 0x52 ∷ 0x4E ∷ 2 ∷ 0 ∷ 15 ∷ 0 ∷ 0x64 ∷ 0 ∷ 0 ∷ 0 ∷ 1 ∷ 0 ∷ 0 ∷ 0 ∷ 1 ∷ 0 ∷ 0 ∷ 0 ∷ 15 ∷ []) ≡ fault 5 20
read_of-actor_15 = refl
