-- The numbers that stand for something: kernel calls, channels, and the sizes of what the devices hold.
use Rattle.std.specs.Prelude.{ℕ, ◌^◌}

-- ---- kernel calls

abbrev pub call_exit : ℕ
call_exit = 0

abbrev pub call_spawn : ℕ
call_spawn = 1

abbrev pub call_write : ℕ
call_write = 2

abbrev pub call_read : ℕ
call_read = 3

abbrev pub call_random : ℕ
call_random = 4

abbrev pub call_clock : ℕ
call_clock = 5

abbrev pub call_handler : ℕ
call_handler = 6

abbrev pub call_iret : ℕ
call_iret = 7

abbrev pub call_dma : ℕ
call_dma = 8

abbrev pub call_self : ℕ
call_self = 9

abbrev pub call_yield : ℕ
call_yield = 10

abbrev pub call_ended : ℕ
call_ended = 11

-- ---- channels

-- the channels below this number are pipes
abbrev pub pipe_count : ℕ
pipe_count = 8

abbrev pub channel_console : ℕ
channel_console = 8

abbrev pub channel_input : ℕ
channel_input = 9

-- ---- the devices

-- the bytes that a pipe holds
abbrev pub pipe_size : ℕ
pipe_size = 256

-- the most bytes that are taken of an input
abbrev pub most_input : ℕ
most_input = 2 ^ 24

-- the stream that the random words come from
abbrev pub random_stream : ℕ
random_stream = 2
