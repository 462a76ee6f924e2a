-- What is true of all devices.
use Rattle.std.specs.Prelude.{◌≡◌, ℕ, ◌≤◌, List, [], length, slice_index_or}
use Rattle.rand_pcg.specs.Lcg.{Lcg, increment_of}
use Rattle.spec_kernel.specs.Devices.{AreBytes}
use Rattle.spec_kernel.specs.Numbers.{most_input, random_stream}

-- this many bytes of the input have been taken, the pipes hold bytes, and the random words are those of their stream
pub record AreDevices (input : List ℕ) (taken : ℕ) (pipes : List (List ℕ)) (words : Lcg) : Type 0 where
  pub within : taken ≤ length input
  pub few : length input ≤ most_input
  pub bytes : AreBytes input
  pub pipe_bytes : (k : ℕ) → AreBytes (slice_index_or pipes k [])
  pub stream : words.increment ≡ increment_of 64 random_stream
