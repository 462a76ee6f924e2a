use Rattle.std.proofs.Common.{◌≡◌, ℕ, ◌^◌, ◌≤◌, List, drop}
use Rattle.std.specs.Str.Parse.{digits_value, digits_value_after}
use Rattle.dl_asm.specs.Numbers.{capped}
use Rattle.dl_asm.proofs.number.value.Given as goal

-- the digits so far, and what follows them
pub record IsRead (radix : ℕ) (digits : List ℕ) (i number : ℕ) : Type 0 where
  pub value : capped (digits_value_after radix number (drop i digits)) ≡ capped (digits_value radix digits)
  pub fits : number ≤ 2 ^ 33

abbrev pub invariant-loop-byte : goal.invariant-loop-byte
invariant-loop-byte l = IsRead l.radix l.digits l.byte-index l.number
