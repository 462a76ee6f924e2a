use Rattle.std.proofs.Common.{◌≡◌, ℕ, ◌^◌, ◌<◌, drop, List}
use Rattle.std.specs.Str.{all_ascii_digits}
use Rattle.std.specs.Str.Parse.{digits_value, digits_value_after}
use Rattle.dl_event.proofs.line.read_number.Given as goal

-- the digits so far, and what follows them
pub record IsRead (digits : List ℕ) (i number : ℕ) : Type 0 where
  pub digit : all_ascii_digits (drop i digits) ≡ all_ascii_digits digits
  pub value : digits_value_after 10 number (drop i digits) ≡ digits_value 10 digits
  pub small : number < 10 ^ i

abbrev pub invariant-loop-digit : goal.invariant-loop-digit
invariant-loop-digit l = IsRead l.digits l.digit-index l.number
