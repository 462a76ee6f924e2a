-- What `position` gives is the first place at which a character passes a test, or none if none does.
use Rattle.std.proofs.Common.{◌≡◌, ℕ, ◌<◌, ◌≤◌, Bool, cond, ltb, List, length, Some, None, arith, Option, unwrap_or, sym}
use Rattle.std.proofs.lemmas.Bool.Decides.{nat_tests}
use Rattle.std.specs.List.{position_or_len}
use Rattle.std.proofs.lemmas.List.Sums.{prefix_len-le-length}

at-none : (n m : ℕ) → None ≡ cond (ltb n m) (Some n) None → n ≤ m → n ≡ m
at-none n m e l = grind (arith, nat_tests)

at-some : (n m i : ℕ) → Some i ≡ cond (ltb n m) (Some n) None → (i ≡ n) × (n < m)
at-some n m i e = grind (arith, nat_tests)

at-either : (n m : ℕ) (r : Option ℕ) → r ≡ cond (ltb n m) (Some n) None → n ≤ m → unwrap_or r m ≡ n
at-either n m None e l = sym (at-none n m e l)
at-either n m (Some i) e l = (at-some n m i e).0

-- if none passes, the place is the length
pub place-none : {X : Type 0} (p : X → Bool) (xs : List X) → None ≡ cond (ltb (position_or_len p xs) (length xs)) (Some (position_or_len p xs)) None → position_or_len p xs ≡ length xs
place-none p xs e = at-none (position_or_len p xs) (length xs) e (prefix_len-le-length _ xs)

-- if one passes, the place is that of the first
pub place-some : {X : Type 0} (p : X → Bool) (xs : List X) (i : ℕ) → Some i ≡ cond (ltb (position_or_len p xs) (length xs)) (Some (position_or_len p xs)) None → (i ≡ position_or_len p xs) × (position_or_len p xs < length xs)
place-some p xs i e = at-some (position_or_len p xs) (length xs) i e

-- the place that is found, or the length if none is, is the first that passes, or the length
pub place-either : {X : Type 0} (p : X → Bool) (xs : List X) (r : Option ℕ) → r ≡ cond (ltb (position_or_len p xs) (length xs)) (Some (position_or_len p xs)) None → unwrap_or r (length xs) ≡ position_or_len p xs
place-either p xs r e = at-either (position_or_len p xs) (length xs) r e (prefix_len-le-length _ xs)
