-- What instructions and runs look at, as facts about the words that are seen; and memories that agree on these.
use Rattle.std.specs.Prelude.{◌≡◌, ℕ, ◌/◌, Bool, true, false, List, [], ◌∷◌, length, slice_index, ◌<◌, Some, None}
use Rattle.spec_isa.specs.Words.{Stored, lays, Lacks, is_inside}
use Rattle.spec_isa.specs.declared.thread.Parts.{Parts}
use Rattle.spec_isa.specs.Instruction.{serial_of, loads_of}
use Rattle.spec_isa.specs.Runs.{run}
use Rattle.spec_kernel.specs.Needs.{fetched}

-- ---- memories that agree

-- memory n has the size of m, and the same bytes in the words that are seen
pub record Agree (seen : ℕ → Bool) (m n : List ℕ) : Type 0 where
  pub size : length n ≡ length m
  pub bytes : (i : ℕ) → seen (i / 4) ≡ true → slice_index n i ≡ slice_index m i

-- the words of these stores are not among those seen
abbrev pub Unseen : (ℕ → Bool) → List Stored → Type 0
Unseen seen [] = Unit {0}
Unseen seen (w ∷ ws) = (seen w.number ≡ false) × Unseen seen ws

-- the words that the next instruction of a thread fetches and loads are among those seen
pub record Touches (seen : ℕ → Bool) (t : Parts) (m : List ℕ) : Type 0 where
  pub fetch : is_inside (length m) t.pc ≡ true → seen (t.pc / 4) ≡ true
  pub load : serial_of t (fetched t m) (length m) ≡ None → (a : ℕ)
      → loads_of t (fetched t m) ≡ Some a → seen a ≡ true

-- so are those of the first n instructions of a run
abbrev pub RunTouches : (seen : ℕ → Bool) → List ℕ → Parts → (n : ℕ) → Type 0
RunTouches seen m t n = (i : ℕ) → i < n → Touches seen (run m t i).thread (lays m (run m t i).words)

-- no store of the first list is of a word of the second
abbrev pub AllLack : List Stored → List Stored → Type 0
AllLack [] ys = Unit {0}
AllLack (x ∷ xs) ys = Lacks x.number ys × AllLack xs ys
