-- What std reads in a word of plain digits is the word's number.
use Rattle.std.proofs.Common.{◌≡◌, ℕ, ◌<◌, ◌^◌, true, List, [], ◌∷◌, length, Result, Ok, Err, rules, arith}
use Rattle.std.proofs.lemmas.Str.Parse.{IsDigitsTest, IsNumeralModel, numerals_by_value, parse_digits}
use Rattle.std.specs.Char.{is_ascii_digit}
use Rattle.std.specs.List.{list_all}
use Rattle.std.specs.Result.{OkIff, result_ok}
use Rattle.std.specs.Str.Parse.{ParsesUnsigned, digits_value}
use Rattle.dl_words.specs.Numbers.{is_plain, number_of}

tells_digits : IsDigitsTest (λ ds. list_all is_ascii_digit ds ≡ true)
tells_digits = search rules

model : IsNumeralModel (λ ds. list_all is_ascii_digit ds ≡ true) (digits_value 10)
model = numerals_by_value _ tells_digits

are_digits : (w : List ℕ) → is_plain w ≡ true → list_all is_ascii_digit w ≡ true
are_digits [] plain = search (rules, plain)
are_digits (d ∷ []) plain = search (rules, plain)
are_digits (d ∷ e ∷ ds) plain = search (rules, plain)

is_long : (w : List ℕ) → is_plain w ≡ true → 0 < length w
is_long [] plain = search (rules, plain)
is_long (d ∷ ds) plain = omega arith

decided : {E : Type 0} (w : List ℕ) (r : Result ℕ E) → is_plain w ≡ true → OkIff r ((0 < length w) × (digits_value 10 w < 2 ^ 32)) (digits_value 10 w) → result_ok r ≡ number_of w
decided w (Ok n) plain (within, is) = search (rules, plain, within, is)
decided w (Err e) plain not_within = search (rules, plain, not_within, is_long w plain)

-- what std reads in a plain word is the word's number, or none where that doesn't fit
pub number_read : {E : Type 0} (w : List ℕ) (r : Result ℕ E) → is_plain w ≡ true → ParsesUnsigned 32 10 w r → result_ok r ≡ number_of w
number_read w r plain parsed = decided w r plain (parse_digits model 32 w r parsed (are_digits w plain))
