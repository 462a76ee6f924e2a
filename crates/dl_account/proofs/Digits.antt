-- Digits that are written from the last one on into the end of a field are the number's decimal.
use Rattle.std.proofs.Common.{◌≡◌, ℕ, ◌+◌, ◌-◌, ◌/◌, ◌%◌, ◌^◌, ◌<◌, ◌≤◌, zero, suc, List, [], ◌∷◌, ◌++◌, length, take, drop, length-drop, decimal, slice_set, refl, sym, ap, ◌∙◌, arith}
use Rattle.std.proofs.lemmas.Fmt.{decimal_digit, decimal_step}
use Rattle.std.proofs.lemmas.Grind.{drop-set_at}
use Rattle.std.proofs.lemmas.List.{append_assoc, length-set, take_all}

-- the digits after `start` are those that follow the digits of `rest`
pub record IsWritten (field : List ℕ) (start rest n : ℕ) : Type 0 where
  pub len : length field ≡ 21
  pub low : 0 < start
  pub high : start ≤ 20
  pub small : rest < 10 ^ start
  pub fits : rest < 2 ^ 64
  pub digits : decimal n ≡ decimal rest ++ drop (start + 1) field

-- a number of at least two digits has room for two
pub room : (rest start : ℕ) → 10 ≤ rest → rest < 10 ^ start → (1 < start) × (rest / 10 < 10 ^ (start - 1))
room rest zero large small = absurd (omega arith)
room rest (suc zero) large small = absurd (omega arith)
room rest (suc (suc k)) large small = let one : suc (suc k) - 1 ≡ suc k = omega arith in (omega arith, rw one (omega arith))

-- a field of 21 bytes with no digit written yet has all of the number's digits still to come
pub begun : (field : List ℕ) (n : ℕ) → length field ≡ 21 → n < 2 ^ 64 → decimal n ≡ decimal n ++ drop 21 field → IsWritten field 20 n n
begun field n len fits digits = record { len = len; low = omega arith; high = omega arith; small = omega arith; fits = fits; digits = digits }

-- with the last digit of `rest` put in at `start`, the digits of rest / 10 are what is still to come
pub one_more : (field : List ℕ) (start rest n : ℕ) → IsWritten field start rest n → 10 ≤ rest → IsWritten (slice_set field start (48 + rest % 10)) (start - 1) (rest / 10) n
one_more field start rest n written large =
    let both = room rest start large written.small in
    let last : List ℕ = (48 + rest % 10) ∷ [] in
    let behind : List ℕ = drop (start + 1) field in
    record {
      len = length-set field start (48 + rest % 10) ∙ written.len;
      low = omega (arith, both.0);
      high = omega (arith, written.high);
      small = both.1;
      fits = omega (arith, written.fits);
      digits =
          written.digits ∙ ap (λ (ds : List ℕ). ds ++ behind) (decimal_step rest large written.fits)
          ∙ append_assoc (decimal (rest / 10)) last behind
          ∙ ap (λ (ds : List ℕ). decimal (rest / 10) ++ ds)
          (sym (drop-set_at field start (start - 1 + 1) (48 + rest % 10) (omega (arith, both.0)) (omega (arith, written.len, written.high))));
    }

-- with the last digit put in and a space before all, the field from the space on is a space and the number's decimal
pub ended : (field : List ℕ) (start rest n : ℕ) → IsWritten field start rest n → rest < 10 → take (21 - (start - 1)) (drop (start - 1) (slice_set (slice_set field start (48 + rest)) (start - 1) 32)) ≡ 32 ∷ decimal n
ended field start rest n written small =
    let digit : List ℕ = slice_set field start (48 + rest) in
    let whole : List ℕ = slice_set digit (start - 1) 32 in
    let len : length digit ≡ 21 = length-set field start (48 + rest) ∙ written.len in
    let all : length whole ≡ 21 = length-set digit (start - 1) 32 ∙ len in
    take_all (21 - (start - 1)) (drop (start - 1) whole) (omega (arith, length-drop (start - 1) whole))
    ∙ drop-set_at digit (start - 1) (start - 1) 32 refl (omega (arith, written.high))
    ∙ ap (λ (ds : List ℕ). 32 ∷ ds)
    (drop-set_at field start (start - 1 + 1) (48 + rest) (omega (arith, written.low)) (omega (arith, written.len, written.high))
    ∙ ap (λ (ds : List ℕ). ds ++ drop (start + 1) field) (sym (decimal_digit rest small)) ∙ sym written.digits)
