-- The footprint of a chunk's commit: the words that it looks at or stores to; and when two commits conflict.
use Rattle.std.specs.Prelude.{◌≡◌, ℕ, zero, suc, ◌<◌, ◌/◌, Bool, false, ◌&&◌, ◌||◌, nat_eq, List, [], ◌∷◌, length, Option, Some, None, IsSome}
use Rattle.spec_isa.specs.declared.thread.Parts.{Parts}
use Rattle.spec_isa.specs.declared.thread.Kind.{Kind}
use Rattle.spec_isa.specs.Words.{Stored, lays, holds, is_inside}
use Rattle.spec_isa.specs.Instruction.{Serial, one, serial_of, loads_of}
use Rattle.spec_isa.specs.Runs.{run}
use Rattle.spec_kernel.specs.Needs.{fetched, next_kind}
use Rattle.spec_play.specs.Touching.{Agree}

-- ---- the footprint

-- whether a word is the one that is loaded, if one is and the instruction is run
abbrev pub is_loaded : Option Kind → Option ℕ → (number : ℕ) → Bool
is_loaded None (Some w) a = nat_eq w a
is_loaded None None a = false
is_loaded (Some kind) o a = false

-- whether a thread's next instruction fetches or loads that word; a serial one loads none, and one outside memory isn't
-- fetched
unfoldable pub looks_at : Parts → List ℕ → (number : ℕ) → Bool
looks_at t m a =
    (is_inside (length m) t.pc && nat_eq (t.pc / 4) a)
    || is_loaded (serial_of t (fetched t m) (length m)) (loads_of t (fetched t m)) a

-- whether a run of up to n instructions fetches or loads that word, or fetches it as the serial instruction before which it
-- stops
abbrev pub looks : List ℕ → Parts → (n number : ℕ) → Bool
looks m t zero a = false
looks m t (suc n) a = let r = run m t n in looks m t n a || looks_at r.thread (lays m r.words) a

-- whether that word is in the footprint of a commit: a run of up to n instructions looks at it or stores to it
abbrev pub footprint : List ℕ → Parts → (n number : ℕ) → Bool
footprint m t n a = looks m t n a || holds (run m t n).words a

-- ---- conflicts

-- whether one of these stores is of a word that is seen
abbrev pub meets : (seen : ℕ → Bool) → List Stored → Bool
meets seen [] = false
meets seen (w ∷ ws) = seen w.number || meets seen ws

-- whether one of two commits on a memory stores a word of the other's footprint
abbrev pub conflicts : List ℕ → (t : Parts) (k : ℕ) (u : Parts) (l : ℕ) → Bool
conflicts m t k u l = meets (footprint m t k) (run m u l).words || meets (footprint m u l) (run m t k).words

-- ---- what is promised

-- what a commit does on memory m it does on n too, with the same footprint; if it stops before a serial instruction, it does
-- so there, before one of the same kind
pub record IsAlike (m n : List ℕ) (t : Parts) (k : ℕ) : Type 0 where
  pub same_run : run n t k ≡ run m t k
  pub same_words : footprint n t k ≡ footprint m t k
  pub stops : (run m t k).n < k
      → let r = run m t k in let kind = next_kind r.thread (lays m r.words) in
      IsSome kind × (next_kind r.thread (lays n r.words) ≡ kind)

-- A commit looks at memory only by its footprint.
abbrev pub CommitsAreLocal : Type 0
CommitsAreLocal = (m n : List ℕ) (t : Parts) (k : ℕ) → Agree (footprint m t k) m n → IsAlike m n t k

-- Two commits without conflict do the same in either order, and leave the same memory.
abbrev pub CommitsCommute : Type 0
CommitsCommute =
    (m : List ℕ) (t : Parts) (k : ℕ) (u : Parts) (l : ℕ) → conflicts m t k u l ≡ false
    → let a = run m t k in let b = run m u l in
    IsAlike m (lays m b.words) t k × IsAlike m (lays m a.words) u l
    × (lays (lays m a.words) b.words ≡ lays (lays m b.words) a.words)

-- If the instruction after the first i is serial, the footprint of up to i + 1 instructions is that of any more.
abbrev pub FootprintsStay : Type 0
FootprintsStay =
    (m : List ℕ) (t : Parts) (i n : ℕ) (kind : Kind)
    → let r = run m t i in one r.thread (lays m r.words) ≡ Serial kind → i < n
    → footprint m t n ≡ footprint m t (suc i)
