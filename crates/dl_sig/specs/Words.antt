-- Two lists of 32-bit words: whether they share a bit, and the bits of either.
use Rattle.std.specs.Prelude.{ℕ, Bool, false, not, ◌||◌, nat_eq, List, [], ◌∷◌, bit_and, bit_or}
use Rattle.std.specs.Simd.Lanes.{zip2}

abbrev pub share : (left right : List ℕ) → Bool
share [] vs = false
share (w ∷ ws) [] = false
share (w ∷ ws) (v ∷ vs) = not (nat_eq (bit_and w v) 0) || share ws vs

abbrev pub joined : (words others : List ℕ) → List ℕ
joined = zip2 bit_or
