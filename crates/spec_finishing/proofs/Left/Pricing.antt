-- The price of work: no work costs nothing, one unit as many events as there are cores plus six, and two works what both cost.
use Rattle.std.proofs.Common.{◌≡◌, ℕ, zero, suc, ◌+◌, ◌*◌, ◌≤◌, inl, inr, ap, arith}
use Rattle.std.proofs.lemmas.Bool.{cases_lt}
use Rattle.spec_finishing.specs.Rank.{price}

-- no work costs nothing
pub price-none : (c : ℕ) → price c 0 ≡ 0
unfolding price
price-none c = omega arith

-- one unit of work more costs as many events as there are cores, plus six
pub price-more : (c n : ℕ) → price c (suc n) ≡ price c n + (c + 6)
unfolding price
price-more c n = grind arith

-- the price of two works is the sum of their prices
pub price-sum : (c n m : ℕ) → price c (n + m) ≡ price c n + price c m
unfolding price
price-sum c n m = grind arith

-- more work costs no less
pub price-least : (c n m : ℕ) → n ≤ m → price c n ≤ price c m
price-least c n zero l = let e : n ≡ 0 = omega arith in let r = ap (price c) e in omega (arith, r)
price-least c n (suc m) l =
    let h = price-more c m in
    elim (cases_lt n (suc m)) [
      | inl k ↦ (let r = price-least c n m (omega arith) in omega (arith, r, h))
      | inr k ↦ (let e : n ≡ suc m = omega arith in let r = ap (price c) e in omega (arith, r))
    ]

-- the price of n + 1 units is enough for a flight of n words, the n instructions and four more
pub price-most : (c n : ℕ) → 6 * n + c + 6 ≤ price c (suc n)
price-most c zero = let a = price-more c 0 in let b = price-none c in omega (arith, a, b)
price-most c (suc n) = let a = price-more c (suc n) in let b = price-most c n in omega (arith, a, b)
