-- What a view shows of a memory, and what reading and storing do to it.
use Rattle.std.specs.Prelude.{◌≡◌, ℕ, ◌+◌, ◌%◌, ◌≤◌, Bool, true, List, Option, Some, None, Result, Ok, Err}
use Rattle.spec_isa.specs.Words.{Stored, lay, read}

-- the bytes; for each word, by its number, the flight that holds up its reading, and whether there is room for a store to it
pub record Sight : Type 0 where
  pub bytes : List ℕ
  pub held : ℕ → Option ℕ
  pub room : ℕ → Bool

-- the address of a word of a memory of that size
pub record IsWord (size addr : ℕ) : Type 0 where
  pub aligned : addr % 4 ≡ 0
  pub inside : addr + 4 ≤ size

-- reading a word gives what is shown, or the flight that holds it up
abbrev pub Answers : Sight → (number : ℕ) → Result ℕ ℕ → Type 0
Answers s a (Ok w) = (s.held a ≡ None) × (w ≡ read s.bytes a)
Answers s a (Err k) = s.held a ≡ Some k

-- there was room for the store, and it is laid over the bytes
pub record Lays (s : Sight) (b : Stored) (after : Sight) : Type 0 where
  pub room : s.room b.number ≡ true
  pub bytes : after.bytes ≡ lay s.bytes b
