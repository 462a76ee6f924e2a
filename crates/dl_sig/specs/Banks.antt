-- One bank of a signature: how many places it has, and which of them are set.
use Rattle.std.specs.Prelude.{◌≡◌, ℕ, zero, suc, ◌*◌, ◌/◌, ◌%◌, ◌^◌, Bool, true, false, nat_eq, List, length, slice_index_or, if◌then◌else◌}
use Rattle.std.specs.FinSet as set
use Rattle.std.specs.Ordering.{nat_cmp}
use Rattle.spec_engine.specs.Signatures.{bank, is_size}

pub record Places : Type 0 where
  pub size : ℕ
  pub set : set.FinSet nat_cmp

abbrev pub no_place : (size : ℕ) → Places
no_place n = record { size = n; set = set.empty }

abbrev pub with_place : (place : ℕ) → Places → Places
with_place p b = record b { set = set.insert b.set p }

abbrev pub with_places : (others : Places) → Places → Places
with_places others b = record b { set = set.union b.set others.set }

-- the numbers below n that pass a test
unfoldable pub set_below : (ℕ → Bool) → (n : ℕ) → set.FinSet nat_cmp
set_below has zero = set.empty
set_below has (suc n) = if has n then set.insert (set_below has n) n else set_below has n

-- whether the bit of that place is set, in words of 32 bits
abbrev pub has_bit : List ℕ → (place : ℕ) → Bool
has_bit words p = nat_eq (slice_index_or words (p / 32) 0 / 2 ^ (p % 32) % 2) 1

abbrev pub has_flag : List Bool → (place : ℕ) → Bool
has_flag flags p = slice_index_or flags p false

-- the places set in these words, and in these flags
abbrev pub of_words : List ℕ → Places
of_words words = let n = 32 * length words in record { size = n; set = set_below (has_bit words) n }

abbrev pub of_flags : List Bool → Places
of_flags flags = let n = length flags in record { size = n; set = set_below (has_flag flags) n }

-- the banks of a signature of that many bits
pub record AreBanks (bits : ℕ) (low high : Places) : Type 0 where
  pub size : is_size bits ≡ true
  pub low_size : low.size ≡ bank bits
  pub high_size : high.size ≡ bank bits
