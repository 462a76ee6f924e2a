-- The words that a chunk looks at, as the code keeps them.
use Rattle.std.specs.Prelude.{◌≡◌, ℕ, ◌+◌, ◌*◌, ◌≤◌, Bool, true, false, ◌||◌, nat_eq, List, [], ◌∷◌, length, Option, Some, None}
use Rattle.spec_isa.specs.declared.thread.Parts.{Parts}
use Rattle.spec_isa.specs.Words.{holds}
use Rattle.spec_isa.specs.Runs.{run}
use Rattle.spec_strata.specs.Footprints.{looks}
use Rattle.dl_serial.specs.declared.footprint.Footprint.{Footprint}
use Rattle.dl_serial.specs.declared.looked.Looked.{Looked}

-- whether a number is in a list
abbrev pub has : List ℕ → (number : ℕ) → Bool
has [] a = false
has (x ∷ xs) a = nat_eq x a || has xs a

-- ---- of one instruction

abbrev pub nothing_looked : Looked
nothing_looked = record { first = None; second = None }

-- with one word more
abbrev pub noted_after : (first second : Option ℕ) → (number : ℕ) → Looked
noted_after None second a = record { first = Some a; second = second }
noted_after (Some w) second a = record { first = Some w; second = Some a }

abbrev pub noted : Looked → (number : ℕ) → Looked
noted l a = noted_after l.first l.second a

-- whether it is that word
abbrev pub is_word : Option ℕ → (number : ℕ) → Bool
is_word None a = false
is_word (Some w) a = nat_eq w a

-- whether that word is one of those that were looked at
abbrev pub is_looked : Looked → (number : ℕ) → Bool
is_looked l a = is_word l.first a || is_word l.second a

-- ---- of a chunk

-- the words of a thread's run of up to n instructions on memory m
pub record IsFootprint (m : List ℕ) (t : Parts) (n : ℕ) (f : Footprint) : Type 0 where
  pub looked : (a : ℕ) → has f.looked.items a ≡ looks m t n a
  pub stored : (a : ℕ) → has f.stored.items a ≡ holds (run m t n).words a
  -- all of them are inside the memory
  pub inside : (a : ℕ) → (has f.looked.items a || has f.stored.items a) ≡ true → 4 * a + 4 ≤ length m
