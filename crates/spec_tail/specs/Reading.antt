-- What bytes say as a tail: its parts, or the first field that isn't good.
use Rattle.std.specs.Prelude.{ℕ, ◌+◌, ◌*◌, ◌/◌, ◌%◌, ◌^◌, ◌==◌, nat_lt, nat_le, Bool, true, not, ◌&&◌, ◌||◌}
use Rattle.std.specs.Prelude.{List, [], ◌∷◌, ◌++◌, length, take, drop, replicate, Option, Some, None, Result, Ok}
use Rattle.std.specs.Prelude.{if◌then◌else◌}
use Rattle.dl_entry.specs.declared.Request.{Request}
use Rattle.dl_entry.specs.Numbers.{most_bytes, most_threads}
use Rattle.spec_isa.specs.declared.thread.Parts.{Parts}
use Rattle.spec_isa.specs.declared.thread.ThreadStatus.{ThreadStatus}
use Rattle.spec_log.specs.declared.draft.Draft.{Draft}
use Rattle.spec_log.specs.declared.fault.Fault.{Fault}
use Rattle.spec_log.specs.Fields.{Read, Reader, Stage, fails, continues, gives, read, number, raw, passes}
use Rattle.spec_log.specs.Fields.{field, any, at_most, from_to, one_more, once, listed, repeated, all_of}
use Rattle.spec_log.specs.Reading as log
use Rattle.spec_tail.specs.declared.draft.Row.{Row}
use Rattle.spec_tail.specs.declared.draft.TailDraft.{TailDraft}
use Rattle.spec_tail.specs.declared.draft.TailHeader.{TailHeader}
use Rattle.spec_tail.specs.Bytes.{row_size, is_empty}
use Rattle.spec_tail.specs.Tails.{Tail}

-- Faults of a tail: 1 the bytes end inside a field, 2 the magic word, 3 the version, 4 the mode, 5 another value out of its
-- range, 6 an entry that doesn't come after the one before it, 7 bytes after the last section. Its log has the same faults.

-- ---- the header

abbrev pub zeros : (width : ℕ) → Reader ℕ
zeros width = field width (λ x. x == 0)

abbrev pub is_aligned : ℕ → Bool
is_aligned x = x % 4 == 0

-- one of the threads that are there, or none, for which 255 stands
abbrev pub last : (present : ℕ) → Reader (Option ℕ)
last present =
    read (field 1 (λ x. (x == 255) || nat_lt x present)) (λ x. gives (if x == 255 then None else Some x))

abbrev pub no_request : Reader (Option Request)
no_request = read (zeros 4) (λ buf. read (zeros 4) (λ len. gives None))

abbrev pub some_request : Reader (Option Request)
some_request =
    read (field 4 is_aligned) (λ buf. read (field 4 (at_most most_bytes)) (λ len.
    gives (Some (record { buf = buf; len = len }))))

abbrev pub request : Reader (Option Request)
request =
    read (field 1 (at_most 1)) (λ asked. read (zeros 2) (λ spare.
    if asked == 1 then some_request else no_request))

-- whether a request's buffer is inside a memory of this size
abbrev pub has_buffer : (size : ℕ) → Option Request → Bool
has_buffer size None = true
has_buffer size (Some request) = nat_le (request.buf + 4 + request.len) size

abbrev pub is_size : Option Request → (size : ℕ) → Bool
is_size request size = (size % 4096 == 0) && from_to 4096 (2 ^ 24) size && has_buffer size request

abbrev pub made : (present base : ℕ) → Option ℕ → Option Request → (size : ℕ) → TailHeader
made present base last request size =
    record { present = present; base = base; last = last; request = request; size = size }

-- what there is
abbrev pub header_parts : Reader TailHeader
header_parts =
    read (field 2 (from_to 1 most_threads)) (λ present.
    read (field 4 (at_most (2 ^ 24))) (λ base.
    read (last present) (λ last.
    read request (λ request.
    read (field 4 (is_size request)) (λ size.
    gives (made present base last request size))))))

-- "DLRT", the version of the file, and a zero byte come before it
abbrev pub header_fields : Reader TailHeader
header_fields =
    read (number 4 2 (λ x. x == 0x54524C44)) (λ magic.
    read (number 1 3 (λ x. x == 1)) (λ version.
    read (zeros 1) (λ spare. header_parts)))

abbrev pub header : Stage TailDraft
header = once (λ d. read header_fields (λ header. gives (record d { header = header })))

-- ---- the threads

-- a live thread has no code, and there are eight causes of faults
abbrev pub is_code : (kind code : ℕ) → Bool
is_code kind code = if kind == 0 then code == 0 else if kind == 1 then true else nat_le code 7

abbrev pub status : (kind code : ℕ) → ThreadStatus
status kind code =
    if kind == 0 then ThreadStatus.Live
    else if kind == 1 then ThreadStatus.Ended code
    else ThreadStatus.Fault code

-- nothing is saved without a mask
abbrev pub is_saved : (mask value : ℕ) → Bool
is_saved mask value = (mask == 1) || (value == 0)

-- register 0 is 0, and is not there
abbrev pub registers : Reader (List ℕ)
registers = read (repeated (one_more (λ x y. true) (any 4)) 31 []) (λ x. gives (0 ∷ x))

-- what comes after its status and its mask
abbrev pub thread_parts : (base mask : ℕ) → ThreadStatus → Reader Parts
thread_parts base mask status =
    read (field 4 is_aligned) (λ pc.
    read (field 4 is_aligned) (λ handler.
    read (field 4 (λ x. is_aligned x && is_saved mask x)) (λ saved_pc.
    read (field 4 (is_saved mask)) (λ saved_a0.
    read (field 4 (is_saved mask)) (λ saved_a1.
    read (field 4 (at_most base)) (λ commits.
    read registers (λ x.
    gives (record {
      pc = pc;
      x = x;
      reservation = None;
      handler = handler;
      mask = mask == 1;
      saved_pc = saved_pc;
      saved_a0 = saved_a0;
      saved_a1 = saved_a1;
      status = status;
      commits = commits;
    }))))))))

abbrev pub thread : (base : ℕ) → Reader Parts
thread base =
    read (field 1 (at_most 2)) (λ kind.
    read (field 1 (at_most 1)) (λ mask.
    read (zeros 2) (λ spare.
    read (field 4 (is_code kind)) (λ code. thread_parts base mask (status kind code)))))

abbrev pub threads : Stage TailDraft
threads =
    record {
      times = λ d. gives d.header.present;
      one = λ d. read (one_more (λ x y. true) (thread d.header.base) d.threads) (λ threads. gives (record d { threads = threads }));
    }

-- ---- the rows of memory

-- bytes that aren't all 0; the fault is at the first of them
abbrev pub filled : (width : ℕ) → Reader (List ℕ)
filled width bytes start = read (raw width) (λ field. passes (not (is_empty field)) 5 start field) bytes start

abbrev pub row : (size : ℕ) → Reader Row
row size =
    read (field 4 (λ number. nat_lt number (size / row_size))) (λ number. read (filled row_size) (λ bytes.
    gives (record { number = number; bytes = bytes })))

abbrev pub rows_rise : Row → Row → Bool
rows_rise x y = nat_lt x.number y.number

abbrev pub rows : Stage TailDraft
rows =
    listed (λ d. read (one_more rows_rise (row d.header.size) d.rows) (λ rows. gives (record d { rows = rows })))

-- ---- the log

-- a stage of the log
abbrev pub of_log : Stage Draft → Stage TailDraft
of_log stage =
    record {
      times = λ d. stage.times d.log;
      one = λ d. read (stage.one d.log) (λ log. gives (record d { log = log }));
    }

-- a stage of the log after which the draft has to pass a test, else this is the fault at its first byte
abbrev pub tested : (fault : ℕ) → (TailDraft → Bool) → Stage Draft → Stage TailDraft
tested fault good stage =
    record {
      times = λ d. stage.times d.log;
      one = λ d bytes start.
          read (stage.one d.log)
          (λ log. let next = record d { log = log } in passes (good next) fault start next) bytes start;
    }

-- a tail's log is one of version 2, which may have the threads that there are; and a recording has at most 2^24 commits
abbrev pub is_second : TailDraft → Bool
is_second d = d.log.shape.version == 2

abbrev pub has_threads : TailDraft → Bool
has_threads d = nat_le d.header.present d.log.shape.threads

abbrev pub has_few_commits : TailDraft → Bool
has_few_commits d = nat_le (d.header.base + d.log.count) (2 ^ 24)

abbrev pub log_stages : List (Stage TailDraft)
log_stages =
    of_log log.magic
    ∷ tested 3 is_second log.version
    ∷ of_log log.mode
    ∷ tested 5 has_threads log.threads
    ∷ of_log log.chunk_size
    ∷ tested 5 has_few_commits log.commits
    ∷ of_log log.order
    ∷ of_log log.sizes
    ∷ of_log log.interrupts
    ∷ of_log log.inputs
    ∷ of_log log.dmas
    ∷ []

-- ---- all of it

abbrev pub stages : List (Stage TailDraft)
stages = header ∷ threads ∷ rows ∷ log_stages

-- nothing was read
abbrev pub blank : TailDraft
blank =
    record {
      header = record { present = 0; base = 0; last = None; request = None; size = 0 };
      threads = [];
      rows = [];
      log = log.blank;
    }

-- a memory with the bytes of a row in their place
abbrev pub with_row : (memory : List ℕ) → Row → List ℕ
with_row memory row =
    let start = row_size * row.number in take start memory ++ row.bytes ++ drop (start + row_size) memory

abbrev pub with_rows : (memory : List ℕ) → List Row → List ℕ
with_rows memory [] = memory
with_rows memory (row ∷ rows) = with_rows (with_row memory row) rows

-- the memory of these rows; all other bytes are 0
abbrev pub memory_of : (size : ℕ) → List Row → List ℕ
memory_of size rows = with_rows (replicate size 0) rows

-- the tail that was read
abbrev pub tail_of : TailDraft → Tail
tail_of d =
    record {
      base = d.header.base;
      threads = d.threads;
      memory = memory_of d.header.size d.rows;
      request = d.header.request;
      last = d.header.last;
      log = log.log_of d.log;
    }

-- a tail, after which nothing follows
abbrev pub ended : List ℕ → Result (Read TailDraft) Fault → Result Tail Fault
ended bytes reading =
    continues reading (λ d after. if nat_lt after (length bytes) then fails 7 after else Ok (tail_of d))

abbrev pub read_of : List ℕ → Result Tail Fault
read_of bytes = ended bytes (all_of stages blank bytes 0)
