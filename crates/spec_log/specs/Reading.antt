-- What bytes say as a log: its parts, or the first field that isn't good.
use Rattle.std.specs.Prelude.{ℕ, ◌+◌, ◌/◌, ◌%◌, ◌^◌, ◌==◌, nat_lt, Bool, true, ◌&&◌, ◌||◌, List, [], ◌∷◌, ◌++◌, length, Result, Ok, if◌then◌else◌}
use Rattle.std.specs.List.{list_any}
use Rattle.dl_entry.specs.declared.actor.Actor.{Actor}
use Rattle.dl_entry.specs.declared.actor.Actor.TheVariants.{Thread, Dma}
use Rattle.dl_entry.specs.declared.input.Input.{Input}
use Rattle.dl_entry.specs.Numbers.{most_bytes, least_chunk, most_threads, plain_threads, dma_code, dma_half}
use Rattle.spec_log.specs.declared.mode_name.ModeName.{ModeName}
use Rattle.spec_log.specs.declared.mode_name.ModeName.TheVariants.{OrderSize, OrderOnly, Picolog}
use Rattle.spec_log.specs.declared.records.Interrupt.{Interrupt}
use Rattle.spec_log.specs.declared.records.DmaRecord.{DmaRecord}
use Rattle.spec_log.specs.declared.shape.Shape.{Shape}
use Rattle.spec_log.specs.declared.sizes.ShortSize.{ShortSize}
use Rattle.spec_log.specs.declared.sizes.Sizes.{Sizes}
use Rattle.spec_log.specs.declared.sizes.Sizes.TheVariants.{Each, Short}
use Rattle.spec_log.specs.declared.draft.Draft.{Draft}
use Rattle.spec_log.specs.declared.fault.Fault.{Fault}
use Rattle.spec_log.specs.declared.log.LogParts.{LogParts}
use Rattle.spec_log.specs.Fields.{Read, Reader, Stage, fails, continues, gives, read, number}
use Rattle.spec_log.specs.Fields.{field, any, at_most, from_to, counted_in, one_more, once, listed, all_of}
use Rattle.spec_log.specs.Log.{input_kinds}
use Rattle.spec_log.specs.Versions.{by_version, most_standard, size_width}

-- Faults of a log: 1 the bytes end inside a field, 2 the magic word, 3 the version, 4 the mode, 5 another value out of its
-- range, 6 an entry that doesn't come after the one before it, 7 bytes after the last section.

-- "DLRN"
abbrev pub magic : Stage Draft
magic = once (λ d. read (number 4 2 (λ x. x == 0x4E524C44)) (λ x. gives d))

abbrev pub version : Stage Draft
version =
    once (λ d. read (number 1 3 (λ x. (x == 1) || (x == 2))) (λ version.
    gives (record d { shape = record d.shape { version = version } })))

abbrev pub mode_of : ℕ → ModeName
mode_of code = if code == 0 then OrderSize else if code == 1 then OrderOnly else Picolog

abbrev pub mode : Stage Draft
mode = once (λ d. read (number 1 4 (at_most 2)) (λ code. gives (record d { mode = mode_of code })))

-- how many threads the log may have: in version 1 they are 15, and two bytes are 0; version 2 says it
abbrev pub thread_count : (version : ℕ) → Reader ℕ
thread_count version =
    by_version version
    (read (field 2 (λ x. x == 0)) (λ spare. gives plain_threads))
    (field 2 (λ x. (x == plain_threads) || (x == most_threads)))

abbrev pub threads : Stage Draft
threads =
    once (λ d. read (thread_count d.shape.version) (λ threads.
    gives (record d { shape = record d.shape { threads = threads } })))

abbrev pub chunk_size : Stage Draft
chunk_size =
    once (λ d. read (field 4 (from_to least_chunk (most_standard d.shape.version))) (λ s.
    gives (record d { shape = record d.shape { s = s } })))

abbrev pub commits : Stage Draft
commits = once (λ d. read (field 4 (at_most (2 ^ 24))) (λ count. gives (record d { count = count })))

-- a number is a DMA's code, or that of a thread
abbrev pub actor_of : (dma : ℕ) → ℕ → Actor
actor_of dma number = if number == dma then Dma else Thread number

-- in version 1 a byte has two actors, the first in its low half; a last byte of one actor has no high half
abbrev pub two_actors : List Actor → Reader (List Actor)
two_actors order =
    read (any 1) (λ byte. gives ((order ++ actor_of dma_half (byte % 16) ∷ []) ++ actor_of dma_half (byte / 16) ∷ []))

abbrev pub last_actor : List Actor → Reader (List Actor)
last_actor order = read (field 1 (at_most dma_half)) (λ byte. gives (order ++ actor_of dma_half byte ∷ []))

abbrev pub actors_by_halves : ℕ → List Actor → Reader (List Actor)
actors_by_halves count order = if length order + 1 == count then last_actor order else two_actors order

-- in version 2 a byte has one: one of the threads that the log may have, or a DMA
abbrev pub is_actor : (threads : ℕ) → ℕ → Bool
is_actor threads byte = nat_lt byte threads || (byte == dma_code)

abbrev pub one_actor : (threads : ℕ) → List Actor → Reader (List Actor)
one_actor threads order = read (field 1 (is_actor threads)) (λ byte. gives (order ++ actor_of dma_code byte ∷ []))

-- the next byte of an order, and how many bytes there are
abbrev pub more_actors : Shape → (count : ℕ) → List Actor → Reader (List Actor)
more_actors shape count order = by_version shape.version (actors_by_halves count order) (one_actor shape.threads order)

abbrev pub order_len : (version count : ℕ) → ℕ
order_len version count = by_version version (count / 2 + count % 2) count

-- the number of actors is that of the commits, but in picolog 0
abbrev pub ordered : ModeName → ℕ → ℕ
ordered OrderSize count = count
ordered OrderOnly count = count
ordered Picolog count = 0

abbrev pub order : Stage Draft
order =
    record {
      times = λ d. read (field 4 (λ n. n == ordered d.mode d.count)) (λ n. gives (order_len d.shape.version n));
      one = λ d. read (more_actors d.shape d.count d.order) (λ order. gives (record d { order = order }));
    }

-- a thread is one of those that a log of the shape may have
abbrev pub thread : Shape → Reader ℕ
thread shape = field 1 (λ number. nat_lt number shape.threads)

-- a thread's moment is earlier: of a lower thread, or with fewer of its commits before
abbrev pub is_earlier : (thread index later_thread later_index : ℕ) → Bool
is_earlier t i u j = nat_lt t u || ((t == u) && nat_lt i j)

-- the size of a commit, where each commit has one
abbrev pub size : Shape → Reader ℕ
size shape = field (size_width shape.version) (at_most shape.s)

abbrev pub short_size : Shape → Reader ShortSize
short_size shape =
    read (thread shape) (λ t. read (any 4) (λ i. read (field (size_width shape.version) (from_to 1 shape.s)) (λ size.
    gives (record { thread = t; index = i; size = size }))))

-- the number of sizes is that of the commits where each commit has one
abbrev pub size_count : ModeName → ℕ → Reader ℕ
size_count OrderSize count = field 4 (λ n. n == count)
size_count OrderOnly count = any 4
size_count Picolog count = any 4

abbrev pub one_size : ModeName → Draft → Reader Draft
one_size OrderSize d = read (one_more (λ x y. true) (size d.shape) d.each) (λ each. gives (record d { each = each }))
one_size OrderOnly d =
    read (one_more (λ x y. is_earlier x.thread x.index y.thread y.index) (short_size d.shape) d.short) (λ short.
    gives (record d { short = short }))
one_size Picolog d =
    read (one_more (λ x y. is_earlier x.thread x.index y.thread y.index) (short_size d.shape) d.short) (λ short.
    gives (record d { short = short }))

abbrev pub sizes : Stage Draft
sizes = record { times = λ d. size_count d.mode d.count; one = λ d. one_size d.mode d }

abbrev pub interrupt : Shape → Reader Interrupt
interrupt shape =
    read (thread shape) (λ t. read (any 4) (λ i. read (any 4) (λ value.
    gives (record { thread = t; index = i; value = value }))))

abbrev pub interrupts : Stage Draft
interrupts =
    listed (λ d. read (one_more (λ x y. is_earlier x.thread x.index y.thread y.index) (interrupt d.shape) d.interrupts) (λ interrupts.
    gives (record d { interrupts = interrupts })))

abbrev pub counted : Reader (List ℕ)
counted = counted_in most_bytes

abbrev pub input : Reader Input
input =
    read (field 1 (λ kind. list_any (λ k. k == kind) input_kinds)) (λ kind. read (any 4) (λ answer. read counted (λ content.
    gives (record { kind = kind; result = answer; bytes = content }))))

abbrev pub inputs : Stage Draft
inputs = listed (λ d. read (one_more (λ x y. true) input d.inputs) (λ inputs. gives (record d { inputs = inputs })))

abbrev pub dma : Reader DmaRecord
dma = read (any 4) (λ position. read counted (λ content. gives (record { position = position; bytes = content })))

abbrev pub dmas : Stage Draft
dmas =
    listed (λ d. read (one_more (λ x y. nat_lt x.position y.position) dma d.dmas) (λ dmas.
    gives (record d { dmas = dmas })))

-- the stages of a log
abbrev pub stages : List (Stage Draft)
stages =
    magic ∷ version ∷ mode ∷ threads ∷ chunk_size ∷ commits ∷ order ∷ sizes ∷ interrupts ∷ inputs ∷ dmas ∷ []

-- nothing was read
abbrev pub blank : Draft
blank =
    record {
      shape = record { version = 0; threads = 0; s = 0 };
      mode = OrderSize;
      count = 0;
      order = [];
      each = [];
      short = [];
      interrupts = [];
      inputs = [];
      dmas = [];
    }

-- the sizes of a log in this mode
abbrev pub sizes_in : ModeName → List ℕ → List ShortSize → Sizes
sizes_in OrderSize each short = Each each
sizes_in OrderOnly each short = Short short
sizes_in Picolog each short = Short short

-- the log that was read
abbrev pub log_of : Draft → LogParts
log_of d =
    record {
      version = d.shape.version;
      threads = d.shape.threads;
      mode = d.mode;
      s = d.shape.s;
      count = d.count;
      order = d.order;
      sizes = sizes_in d.mode d.each d.short;
      interrupts = d.interrupts;
      inputs = d.inputs;
      dmas = d.dmas;
    }

-- a log, after which nothing follows
abbrev pub ended : List ℕ → Result (Read Draft) Fault → Result LogParts Fault
ended bytes reading = continues reading (λ d after. if nat_lt after (length bytes) then fails 7 after else Ok (log_of d))

abbrev pub read_of : List ℕ → Result LogParts Fault
read_of bytes = ended bytes (all_of stages blank bytes 0)
