-- A memory has a row for each 32 bytes, and each row is found by its number.
use Rattle.std.proofs.Common.{◌≡◌, ℕ, ◌+◌, ◌*◌, ◌/◌, ◌<◌, zero, suc, List, [], length, take, drop, get_or, refl, ap, ◌∙◌, arith}
use Rattle.std.proofs.lemmas.List.{drop-drop}
use Rattle.std.specs.Simd.{first_chunks}
use Rattle.dl_account.specs.States.{rows}

length-chunks : (n k : ℕ) (xs : List ℕ) → length (first_chunks n k xs) ≡ k
length-chunks n zero xs = refl
length-chunks n (suc k) xs = ap suc (length-chunks n k (drop n xs))

get_or-chunks : (n k i at : ℕ) (xs : List ℕ) → i < k → at ≡ n * i → get_or (first_chunks n k xs) i [] ≡ take n (drop at xs)
get_or-chunks n zero i at xs lt e = absurd (omega arith)
get_or-chunks n (suc k) zero at xs lt e = let start : at ≡ 0 = omega arith in rw start refl
get_or-chunks n (suc k) (suc i) at xs lt e =
    let next : at ≡ n + n * i = omega arith in
    get_or-chunks n k i (n * i) (drop n xs) (omega arith) refl ∙ rw (next, ← drop-drop (n * i) n xs) refl

-- a memory has a row for each 32 of its bytes
pub length-rows : (m : List ℕ) → length (rows m) ≡ length m / 32
length-rows m = length-chunks 32 (length m / 32) m

-- row i is the 32 bytes from 32 * i on
pub get_or-rows : (m : List ℕ) (i : ℕ) → i < length m / 32 → get_or (rows m) i [] ≡ take 32 (drop (32 * i) m)
get_or-rows m i lt = get_or-chunks 32 (length m / 32) i (32 * i) m lt refl
