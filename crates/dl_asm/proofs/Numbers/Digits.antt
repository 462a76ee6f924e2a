-- A number that is cut at each digit comes to the same as one that is cut once.
use Rattle.std.proofs.Common.{◌≡◌, ℕ, ◌+◌, ◌*◌, ◌^◌, ◌<◌, ◌≤◌, List, [], ◌∷◌, arith, ap, ◌⊎◌, inl, inr}
use Rattle.std.specs.Char.{digit_value}
use Rattle.std.specs.Str.Parse.{digits_value_after}
use Rattle.std.proofs.Math.Nat.{le-mul_of_pos_right}
use Rattle.std.proofs.lemmas.Bool.{cases_lt}
use Rattle.dl_asm.specs.Numbers.{capped}

-- what follows makes a number no smaller
after-ge : (radix n : ℕ) (ds : List ℕ) → 1 ≤ radix → n ≤ digits_value_after radix n ds
after-ge radix n [] l = omega arith
after-ge radix n (d ∷ ds) l =
    let rest = after-ge radix (n * radix + digit_value d) ds l in
    let grown : n ≤ n * radix = le-mul_of_pos_right n (omega arith) in
    omega arith

-- and a number that is capped may be capped before what follows it
capped-before-by : (radix n : ℕ) (ds : List ℕ) → 1 ≤ radix → (n < 2 ^ 33) ⊎ (2 ^ 33 ≤ n) → capped (digits_value_after radix (capped n) ds) ≡ capped (digits_value_after radix n ds)
capped-before-by radix n ds l (inl h) = let e : capped n ≡ n = omega arith in ap (λ k. capped (digits_value_after radix k ds)) e
capped-before-by radix n ds l (inr h) =
    let e : capped n ≡ 2 ^ 33 = omega arith in
    omega (arith, after-ge radix n ds l, after-ge radix (capped n) ds l)

-- a number that is cut to 2^33 before more digits are read comes to the same, cut
pub capped-before : (radix n : ℕ) (ds : List ℕ) → 1 ≤ radix → capped (digits_value_after radix (capped n) ds) ≡ capped (digits_value_after radix n ds)
capped-before radix n ds l = capped-before-by radix n ds l (cases_lt n (2 ^ 33))
