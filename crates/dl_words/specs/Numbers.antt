-- Numbers as words write them.
use Rattle.std.specs.Prelude.{ℕ, ◌^◌, ◌%◌, Bool, false, not, ◌&&◌, nat_eq, nat_le, nat_lt, List, [], ◌∷◌, Option, Some, None, if◌then◌else◌}
use Rattle.std.specs.Char.{is_ascii_digit}
use Rattle.std.specs.List.{list_all}
use Rattle.std.specs.Option.{option_and_then}
use Rattle.std.specs.Str.Parse.{digits_value}

-- decimal digits, at least one, without a zero in front of others
abbrev pub is_plain : List ℕ → Bool
is_plain [] = false
is_plain (digit ∷ []) = is_ascii_digit digit
is_plain (digit ∷ next ∷ more) = not (nat_eq digit 48) && list_all is_ascii_digit (digit ∷ next ∷ more)

-- the number that a word writes, where it is at most 2^32 - 1
abbrev pub number_of : List ℕ → Option ℕ
number_of word = if is_plain word && nat_lt (digits_value 10 word) (2 ^ 32) then Some (digits_value 10 word) else None

-- whole pages of 4,096 bytes, from one to 4,096 of them
abbrev pub is_size : ℕ → Bool
is_size size = nat_le 4096 size && nat_le size 16777216 && nat_eq (size % 4096) 0

abbrev pub size_of : ℕ → Option ℕ
size_of size = if is_size size then Some size else None

-- the size of a memory that a word writes
abbrev pub memory_of : List ℕ → Option ℕ
memory_of word = option_and_then size_of (number_of word)

-- the address of a word of a memory of that size
abbrev pub is_address : (memory address : ℕ) → Bool
is_address memory address = nat_lt address memory && nat_eq (address % 4) 0

abbrev pub address_of : (memory : ℕ) → List ℕ → Option ℕ
address_of memory word =
    option_and_then (λ address. if is_address memory address then Some address else None) (number_of word)

-- the number that a word writes, where it is at most this
abbrev pub up_to : (most : ℕ) → List ℕ → Option ℕ
up_to most word = option_and_then (λ number. if nat_le number most then Some number else None) (number_of word)

-- a place among the commits of a log, which has at most 2^24 of them
abbrev pub place_of : List ℕ → Option ℕ
place_of word = up_to 16777216 word

-- so many commits, at least one, lie between two states that are kept
abbrev pub every_of : List ℕ → Option ℕ
every_of word = option_and_then (λ every. if nat_le 1 every then Some every else None) (place_of word)
