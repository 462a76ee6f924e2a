-- Numbers and registers as a source writes them.
use Rattle.std.specs.Prelude.{ℕ, ◌^◌, ◌==◌, Bool, false, not, ◌&&◌, ◌||◌, nat_eq, nat_le, min, List, [], ◌∷◌, length, drop, codes, Option, Some, None}
use Rattle.std.specs.Prelude.{if◌then◌else◌}
use Rattle.std.specs.List.{list_all, starts_with}
use Rattle.std.specs.Char.{is_ascii_digit, is_ascii_hexdigit}
use Rattle.std.specs.Str.Parse.{digits_value}
use Rattle.dl_asm.specs.declared.number.Number.{Number}

-- ---- digits

-- no 0 comes before other digits
abbrev pub is_decimal : List ℕ → Bool
is_decimal [] = false
is_decimal (d ∷ ds) = list_all is_ascii_digit (d ∷ ds) && (not (d == 48) || (length ds == 0))

abbrev pub decimal_in : List ℕ → Option ℕ
decimal_in text = if is_decimal text then Some (digits_value 10 text) else None

-- one to eight, in either case
abbrev pub is_hexadecimal : List ℕ → Bool
is_hexadecimal text = nat_le 1 (length text) && nat_le (length text) 8 && list_all is_ascii_hexdigit text

abbrev pub hexadecimal_in : List ℕ → Option ℕ
hexadecimal_in text = if is_hexadecimal text then Some (digits_value 16 text) else None

-- hexadecimal after `0x`, else decimal
abbrev pub magnitude_in : List ℕ → Option ℕ
magnitude_in text = if starts_with nat_eq text (codes "0x") then hexadecimal_in (drop 2 text) else decimal_in text

-- ---- numbers

abbrev pub signed : (negative : Bool) → Option ℕ → Option Number
signed negative None = None
signed negative (Some magnitude) = Some (record { negative = negative; magnitude = magnitude })

-- there may be a minus before the digits
abbrev pub number_in : List ℕ → Option Number
number_in text =
    let negative = starts_with nat_eq text (codes "-") in
    signed negative (magnitude_in (if negative then drop 1 text else text))

-- a number as the code holds it: one that is further from 0 than any range reaches is cut off
abbrev pub capped : ℕ → ℕ
capped n = min n (2 ^ 33)

abbrev pub number_capped : Number → Number
number_capped n = record n { magnitude = capped n.magnitude }

-- ---- registers

abbrev pub up_to_31 : Option ℕ → Option ℕ
up_to_31 None = None
up_to_31 (Some n) = if nat_le n 31 then Some n else None

-- `x` and a decimal number from 0 to 31
abbrev pub register_in : List ℕ → Option ℕ
register_in text = if starts_with nat_eq text (codes "x") then up_to_31 (decimal_in (drop 1 text)) else None
