-- A trail: a log, its play on an image, and the states that are kept of it.
use Rattle.std.specs.Prelude.{◌≡◌, ℕ, ◌*◌, ◌<◌, List, [], ◌∷◌, length, map, slice_get, Some}
use Rattle.spec_isa.specs.declared.thread.Parts.{Parts}
use Rattle.spec_log.specs.declared.LogParts.{LogParts}
use Rattle.spec_play.specs.Resuming.{HasDone}
use Rattle.spec_interval.specs.Slices.{Slice}
use Rattle.dl_kernel.specs.States.{PlayState as State}
use Rattle.dl_trail.specs.declared.text.Text.{Text}

-- and after every how many commits a state is kept
pub record Trail : Type 0 where
  pub log : LogParts
  pub memory : List ℕ
  pub entry : ℕ
  pub every : ℕ

-- ---- as the code keeps it

-- the image is in the first state
abbrev pub memory_of : List State → List ℕ
memory_of [] = []
memory_of (s ∷ ss) = s.memory

abbrev pub entry_in : List Parts → ℕ
entry_in [] = 0
entry_in (t ∷ ts) = t.pc

abbrev pub entry_of : List State → ℕ
entry_of [] = 0
entry_of (s ∷ ss) = entry_in s.threads

abbrev pub commits_of : List State → List ℕ
commits_of kept = map (λ s. s.commits) kept

abbrev pub slice_in : Text → Slice
slice_in text = record { text = text.bytes.items; end = text.end }

-- ---- what is kept

-- the n-th number is n times so many commits, and there is one for each of these numbers of commits that the play does
pub record AreNumbers (t : Trail) (numbers : List ℕ) : Type 0 where
  pub each : (n k : ℕ) → slice_get numbers n ≡ Some k → k ≡ n * t.every
  pub done : (n : ℕ) → n < length numbers → HasDone t.log t.memory t.entry (n * t.every)
  pub all : (n : ℕ) → HasDone t.log t.memory t.entry (n * t.every) → n < length numbers
