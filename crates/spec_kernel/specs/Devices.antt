-- What is outside the spheres: the input that is left, the console, eight pipes, and a source of random bytes.
use Rattle.std.specs.Prelude.{ℕ, zero, suc, ◌-◌, ◌%◌, ◌^◌, ◌<◌, All, List, [], ◌∷◌, ◌++◌, length, take, drop, replicate, slice_index_or, slice_set}
use Rattle.rand_pcg.specs.Lcg.{Lcg, started, increment_of}
use Rattle.rand_pcg.specs.Pcg.{multiplier_64, pcg32}
use Rattle.spec_kernel.specs.Numbers.{pipe_count, pipe_size, most_input, random_stream}

pub record Devices : Type 0 where
  -- the bytes of the input that haven't been taken yet
  pub input : List ℕ
  -- all bytes that have been put on the console
  pub console : List ℕ
  -- the bytes of each pipe, the next one to be read first
  pub pipes : List (List ℕ)
  -- the state of the random words
  pub random : Lcg

-- ---- what they hold

-- each of these is a byte
abbrev pub AreBytes : List ℕ → Type 0
AreBytes bytes = All (λ byte. byte < 2 ^ 8) bytes

-- what the input and the pipes hold are bytes
pub record HaveByteInput (d : Devices) : Type 0 where
  pub input : AreBytes d.input
  pub pipes : (k : ℕ) → AreBytes (slice_index_or d.pipes k [])

-- ---- what is done with them

-- before the first event: the first 2^24 bytes of an input, empty pipes, and the random words of a seed's stream 2
abbrev pub devices_of : (input : List ℕ) (seed : ℕ) → Devices
devices_of input seed =
    record {
      input = take most_input input;
      console = [];
      pipes = replicate pipe_count [];
      random = started 64 multiplier_64 seed (increment_of 64 random_stream);
    }

-- with the first n bytes of the input taken
abbrev pub input_taken : ℕ → Devices → Devices
input_taken n d = record d { input = drop n d.input }

-- with these further bytes on the console
abbrev pub console_put : List ℕ → Devices → Devices
console_put bytes d = record d { console = d.console ++ bytes }

abbrev pub pipe_at : Devices → ℕ → List ℕ
pipe_at d pipe = slice_index_or d.pipes pipe []

abbrev pub with_pipe : Devices → ℕ → List ℕ → Devices
with_pipe d pipe bytes = record d { pipes = slice_set d.pipes pipe bytes }

-- as many of these bytes, from the first on, as a pipe of 256 has room for
abbrev pub pipe_fitting : Devices → ℕ → List ℕ → List ℕ
pipe_fitting d pipe bytes = take (pipe_size - length (pipe_at d pipe)) bytes

-- with those at the pipe's end
abbrev pub pipe_put : Devices → ℕ → List ℕ → Devices
pipe_put d pipe bytes = with_pipe d pipe (pipe_at d pipe ++ pipe_fitting d pipe bytes)

-- the pipe's first bytes, n at most
abbrev pub pipe_first : Devices → ℕ → ℕ → List ℕ
pipe_first d pipe n = take n (pipe_at d pipe)

-- without them
abbrev pub pipe_taken : Devices → ℕ → ℕ → Devices
pipe_taken d pipe n = with_pipe d pipe (drop n (pipe_at d pipe))

-- the next n random bytes, each the low byte of one random word
unfoldable pub random_bytes : ℕ → Lcg → List ℕ
random_bytes zero g = []
random_bytes (suc n) g = (pcg32 g).0 % 2 ^ 8 ∷ random_bytes n (pcg32 g).1

-- the state of the random words n words later
unfoldable pub random_after : ℕ → Lcg → Lcg
random_after zero g = g
random_after (suc n) g = random_after n (pcg32 g).1

-- with n random words taken
abbrev pub random_taken : ℕ → Devices → Devices
random_taken n d = record d { random = random_after n d.random }
