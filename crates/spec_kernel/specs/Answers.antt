-- What the devices answer, and their state afterwards.
use Rattle.std.specs.Prelude.{ℕ, ◌%◌, ◌^◌, nat_eq, nat_lt, List, [], ◌∷◌, length, take, if◌then◌else◌, Option, Some, None}
use Rattle.dl_entry.specs.declared.Input.{Input}
use Rattle.dl_entry.specs.declared.Request.{Request}
use Rattle.dl_entry.specs.Numbers.{kind_write, kind_read, kind_random, kind_clock, kind_moment, kind_input}
use Rattle.spec_kernel.specs.Numbers.{pipe_count, channel_console, channel_input}
use Rattle.spec_kernel.specs.Devices.{Devices, input_taken, console_put, pipe_fitting, pipe_put, pipe_first, pipe_taken, random_bytes, random_taken}
use Rattle.spec_kernel.specs.Needs.{Need, Write, Read, Random, Clock, MomentWord, InputWord}

-- the results that aren't numbers
abbrev pub unknown_call : ℕ
unknown_call = 0xFFFFFFFF

abbrev pub bad_buffer : ℕ
bad_buffer = 0xFFFFFFFE

abbrev pub nothing_now : ℕ
nothing_now = 0xFFFFFFFD

abbrev pub refused : ℕ
refused = 0xFFFFFFFC

-- what came from outside, as a log keeps it, and the devices afterwards
pub record Answered : Type 0 where
  pub input : Input
  pub devices : Devices

-- the number of bytes that went, or 'nothing now' if none went of a length over 0
abbrev pub went : (count len : ℕ) → ℕ
went count len = if nat_eq count 0 then if nat_eq len 0 then 0 else nothing_now else count

abbrev pub write_answer : (result : ℕ) → Devices → Answered
write_answer result d = record { input = record { kind = kind_write; result = result; bytes = [] }; devices = d }

-- a pipe takes what it has room for, and the console takes all
abbrev pub answer_write : Devices → (channel : ℕ) → List ℕ → Answered
answer_write d channel bytes =
    if nat_lt channel pipe_count then write_answer (went (length (pipe_fitting d channel bytes)) (length bytes)) (pipe_put d channel bytes)
    else if nat_eq channel channel_console then write_answer (length bytes) (console_put bytes d)
    else write_answer refused d

abbrev pub read_answer : (result : ℕ) → List ℕ → Devices → Answered
read_answer result bytes d = record { input = record { kind = kind_read; result = result; bytes = bytes }; devices = d }

-- from a pipe, or from the input
abbrev pub answer_read : Devices → (channel len : ℕ) → Answered
answer_read d channel len =
    if nat_lt channel pipe_count
    then (let bytes = pipe_first d channel len in read_answer (went (length bytes) len) bytes (pipe_taken d channel len))
    else if nat_eq channel channel_input
    then (let bytes = take len d.input in read_answer (went (length bytes) len) bytes (input_taken len d))
    else read_answer refused [] d

abbrev pub answer_random : Devices → (len : ℕ) → Answered
answer_random d len =
    record {
      input = record { kind = kind_random; result = len; bytes = random_bytes len d.random };
      devices = random_taken len d;
    }

-- a moment is cut to 32 bits
abbrev pub answer_moment : Devices → (kind moment : ℕ) → Answered
answer_moment d kind moment =
    record { input = record { kind = kind; result = moment % 2 ^ 32; bytes = [] }; devices = d }

-- a word of all ones means that there is no byte
abbrev pub first_byte : List ℕ → ℕ
first_byte [] = 0xFFFFFFFF
first_byte (b ∷ bytes) = b

abbrev pub answer_input : Devices → Answered
answer_input d =
    record { input = record { kind = kind_input; result = first_byte d.input; bytes = [] }; devices = input_taken 1 d }

-- what the devices answer at a moment
unfoldable pub answer : Devices → Need → (moment : ℕ) → Answered
answer d (Write channel bytes) moment = answer_write d channel bytes
answer d (Read channel buf len) moment = answer_read d channel len
answer d (Random buf len) moment = answer_random d len
answer d Clock moment = answer_moment d kind_clock moment
answer d MomentWord moment = answer_moment d kind_moment moment
answer d InputWord moment = answer_input d

-- what was taken from outside for a step, if it needed something, and the devices afterwards
pub record Taken : Type 0 where
  pub input : Option Input
  pub devices : Devices

abbrev pub taken : Option Need → Devices → (moment : ℕ) → Taken
taken None devices moment = record { input = None; devices = devices }
taken (Some need) devices moment =
    let a = answer devices need moment in record { input = Some a.input; devices = a.devices }

-- the bytes that a DMA takes from the input: as many as are asked for, or what is left
abbrev pub dma_bytes : Devices → Request → List ℕ
dma_bytes d request = take request.len d.input

-- the devices without them
abbrev pub dma_taken : Devices → Request → Devices
dma_taken d request = input_taken request.len d
