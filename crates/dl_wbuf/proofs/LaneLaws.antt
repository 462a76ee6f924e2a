-- A store as its four lanes: each is a bit of the mask and a byte of the value.
use Rattle.std.proofs.Common.{◌≡◌, ℕ, ◌+◌, ◌*◌, ◌/◌, ◌%◌, ◌^◌, ◌<◌, max, inl, inr, Bool, true, false, cond, nat_eq, refl, sym, ap, ◌∙◌, arith, bit_or, bit_and, zero, suc, slice_index, [], ◌∷◌}
use Rattle.std.proofs.lemmas.Bool.Decides.{eqb_tells}
use Rattle.std.proofs.lemmas.Nat.Bits.{bit_at_or, shr_and_one, bit_at_lowest}
use Rattle.std.proofs.lemmas.Nat.{or_lt}
use Rattle.spec_isa.specs.Words.{later, merged}
use Rattle.spec_isa.specs.Masks.{some_if, bytes_of, bit_of, mask_of, or_byte, word_over}
use Rattle.dl_wbuf.specs.Exact.{IsExact}
use Rattle.dl_wbuf.specs.Buffers.{lane}

-- ---- one lane

-- a byte that is there on a condition takes the place of the one below exactly on that condition
pub or_some : (c : Bool) (b below : ℕ) → or_byte (some_if c b) below ≡ cond c b below
or_some true b below = refl
or_some false b below = refl

or_some_lt : (c : Bool) (b below : ℕ) → or_byte (some_if c (b % 2 ^ 8)) (below % 2 ^ 8) < 2 ^ 8
or_some_lt true b below = omega arith
or_some_lt false b below = omega arith

-- of two stores of a lane the later one counts; p, q and r are the bits of their masks and of the mask of both
lane-then : (p q r b d value : ℕ) → p < 2 → q < 2 → r ≡ max p q → value ≡ or_byte (some_if (nat_eq q 1) d) b → some_if (nat_eq r 1) value ≡ later (some_if (nat_eq p 1) b) (some_if (nat_eq q 1) d)
lane-then p q r b d value hp hq bit byte =
    elim (eqb_tells q 1) [
      | inl h ↦ let e : r ≡ 1 = omega arith in rw (byte, e, h.0) refl
      | inr h ↦ let e : r ≡ p = omega arith in rw (byte, e, h.0) refl
    ]

bit_of_lane : (p b : ℕ) → p < 2 → bit_of (some_if (nat_eq p 1) b) ≡ p
bit_of_lane p b hp =
    elim (eqb_tells p 1) [
      | inl h ↦ rw h.0 (sym h.1)
      | inr h ↦ rw h.0 (omega arith)
    ]

-- ---- the lanes of a value

pub record HasLanes (value b0 b1 b2 b3 : ℕ) : Type 0 where
  pub lane0 : value % 2 ^ 8 ≡ b0
  pub lane1 : value / 2 ^ 8 % 2 ^ 8 ≡ b1
  pub lane2 : value / 2 ^ 16 % 2 ^ 8 ≡ b2
  pub lane3 : value / 2 ^ 24 % 2 ^ 8 ≡ b3

HasLanes-sum : (b0 b1 b2 b3 : ℕ) → b0 < 2 ^ 8 → b1 < 2 ^ 8 → b2 < 2 ^ 8 → b3 < 2 ^ 8 → HasLanes (b0 + b1 * 2 ^ 8 + b2 * 2 ^ 16 + b3 * 2 ^ 24) b0 b1 b2 b3
HasLanes-sum b0 b1 b2 b3 h0 h1 h2 h3 = record { lane0 = omega arith; lane1 = omega arith; lane2 = omega arith; lane3 = omega arith }

pub HasLanes-over : (a mask value below : ℕ) → HasLanes (word_over (bytes_of a mask value) below)
    (or_byte (some_if (nat_eq (mask % 2) 1) (value % 2 ^ 8)) (below % 2 ^ 8))
    (or_byte (some_if (nat_eq (mask / 2 % 2) 1) (value / 2 ^ 8 % 2 ^ 8)) (below / 2 ^ 8 % 2 ^ 8))
    (or_byte (some_if (nat_eq (mask / 4 % 2) 1) (value / 2 ^ 16 % 2 ^ 8)) (below / 2 ^ 16 % 2 ^ 8))
    (or_byte (some_if (nat_eq (mask / 8 % 2) 1) (value / 2 ^ 24 % 2 ^ 8)) (below / 2 ^ 24 % 2 ^ 8))
unfolding word_over bytes_of
HasLanes-over a n u v = HasLanes-sum _ _ _ _ (or_some_lt _ _ _) (or_some_lt _ _ _) (or_some_lt _ _ _) (or_some_lt _ _ _)

-- a store of all four bytes leaves nothing of the word below
pub whole_over : (value below : ℕ) → value < 2 ^ 32 → value ≡ word_over (bytes_of 0 15 value) below
unfolding word_over bytes_of
whole_over v below h = omega (arith, h)

-- the word's number doesn't matter to its bytes
pub word_over-any : (a b mask value below : ℕ) → word_over (bytes_of a mask value) below ≡ word_over (bytes_of b mask value) below
unfolding word_over bytes_of
word_over-any a b m v below = refl

-- lane k of a store is the value's byte k if bit k of the mask is set, and else nothing
pub lane-bytes_of : (k a mask value : ℕ) → k < 4 → lane (bytes_of a mask value) k ≡ some_if (nat_eq (bit_and (mask / 2 ^ k) 1) 1) (slice_index (value % 256 ∷ value / 256 % 256 ∷ value / 65536 % 256 ∷ value / 16777216 % 256 ∷ []) k)
unfolding bytes_of
lane-bytes_of zero a m v h = rw (shr_and_one m 0, bit_at_lowest m) refl
lane-bytes_of (suc zero) a m v h = rw (shr_and_one m 1) refl
lane-bytes_of (suc (suc zero)) a m v h = rw (shr_and_one m 2) refl
lane-bytes_of (suc (suc (suc zero))) a m v h = rw (shr_and_one m 3) refl
lane-bytes_of (suc (suc (suc (suc k)))) a m v h = absurd (omega arith)

-- ---- merging

either_bit : (m n k : ℕ) → n % 16 / 2 ^ k % 2 ≡ n / 2 ^ k % 2 → bit_or m (n % 16) / 2 ^ k % 2 ≡ max (m / 2 ^ k % 2) (n / 2 ^ k % 2)
either_bit m n k e = bit_at_or m (n % 16) k ∙ ap (max (m / 2 ^ k % 2)) e

lowest_bit : (m n : ℕ) → bit_or m (n % 16) % 2 ≡ max (m % 2) (n % 2)
lowest_bit m n = omega (arith, either_bit m n 0 (omega arith))

-- the store that `then` makes is the two stores as one
pub bytes_of-then : (a b m v n u : ℕ) → bytes_of a (bit_or m (n % 16)) (word_over (bytes_of 0 n u) v) ≡ merged (bytes_of a m v) (bytes_of b n u)
unfolding bytes_of merged
bytes_of-then a b m v n u =
    let h = HasLanes-over 0 n u v in
    rw (
      lane-then (m % 2) (n % 2) _ (v % 2 ^ 8) (u % 2 ^ 8) _ (omega arith) (omega arith) (lowest_bit m n) h.lane0,
      lane-then (m / 2 % 2) (n / 2 % 2) _ (v / 2 ^ 8 % 2 ^ 8) (u / 2 ^ 8 % 2 ^ 8) _ (omega arith) (omega arith) (either_bit m n 1 (omega arith)) h.lane1,
      lane-then (m / 4 % 2) (n / 4 % 2) _ (v / 2 ^ 16 % 2 ^ 8) (u / 2 ^ 16 % 2 ^ 8) _ (omega arith) (omega arith) (either_bit m n 2 (omega arith)) h.lane2,
      lane-then (m / 8 % 2) (n / 8 % 2) _ (v / 2 ^ 24 % 2 ^ 8) (u / 2 ^ 24 % 2 ^ 8) _ (omega arith) (omega arith) (either_bit m n 3 (omega arith)) h.lane3,
    )
    refl

-- ---- exactness

-- at a multiple of 4, an empty mask with the value 0 is exact
pub IsExact-none : (word : ℕ) → word % 4 ≡ 0 → IsExact word 0 0
unfolding bytes_of mask_of word_over
IsExact-none word h = record { place = omega arith; bits = refl; whole = refl }

mask_of-bytes_of : (a m v : ℕ) → mask_of (bytes_of a m v) ≡ m % 16
unfolding mask_of bytes_of
mask_of-bytes_of a m v =
    rw (
      bit_of_lane (m % 2) (v % 2 ^ 8) (omega arith),
      bit_of_lane (m / 2 % 2) (v / 2 ^ 8 % 2 ^ 8) (omega arith),
      bit_of_lane (m / 4 % 2) (v / 2 ^ 16 % 2 ^ 8) (omega arith),
      bit_of_lane (m / 8 % 2) (v / 2 ^ 24 % 2 ^ 8) (omega arith),
    )
    (omega arith)

-- the lanes outside the mask are 0
HasLanes-exact : (w m v : ℕ) → IsExact w m v → HasLanes v
    (or_byte (some_if (nat_eq (m % 2) 1) (v % 2 ^ 8)) 0)
    (or_byte (some_if (nat_eq (m / 2 % 2) 1) (v / 2 ^ 8 % 2 ^ 8)) 0)
    (or_byte (some_if (nat_eq (m / 4 % 2) 1) (v / 2 ^ 16 % 2 ^ 8)) 0)
    (or_byte (some_if (nat_eq (m / 8 % 2) 1) (v / 2 ^ 24 % 2 ^ 8)) 0)
HasLanes-exact w m v h = rw h.whole at (HasLanes-over (w / 4) m v 0)

lane-clean : (p q r b d value : ℕ) → p < 2 → q < 2 → b ≡ or_byte (some_if (nat_eq p 1) b) 0 → r ≡ max p q → value ≡ or_byte (some_if (nat_eq q 1) d) b → or_byte (some_if (nat_eq r 1) value) 0 ≡ value
lane-clean p q r b d value hp hq clean bit byte =
    elim (eqb_tells q 1) [
      | inl h ↦ let e : r ≡ 1 = omega arith in rw e refl
      | inr h ↦
          let e : r ≡ p = omega arith in
          let f : value ≡ b = rw h.0 at byte in
          rw (e, f) (sym clean)
    ]

place_of : (a m v n u w : ℕ) → 4 * (bytes_of a n u).number ≡ w → 4 * (bytes_of a m v).number ≡ w
unfolding bytes_of
place_of a m v n u w h = h

whole-then : (w m v n u : ℕ) → IsExact w m v → word_over (bytes_of (w / 4) (bit_or m (n % 16)) (word_over (bytes_of 0 n u) v)) 0 ≡ word_over (bytes_of 0 n u) v
unfolding word_over bytes_of
whole-then w m v n u h =
    let old = HasLanes-exact w m v h in
    let new = HasLanes-over 0 n u v in
    rw (
      lane-clean (m % 2) (n % 2) (bit_or m (n % 16) % 2) (v % 2 ^ 8) (u % 2 ^ 8) (word_over (bytes_of 0 n u) v % 2 ^ 8) (omega arith) (omega arith) old.lane0 (lowest_bit m n) new.lane0,
      lane-clean (m / 2 % 2) (n / 2 % 2) _ (v / 2 ^ 8 % 2 ^ 8) (u / 2 ^ 8 % 2 ^ 8) _ (omega arith) (omega arith) old.lane1 (either_bit m n 1 (omega arith)) new.lane1,
      lane-clean (m / 4 % 2) (n / 4 % 2) _ (v / 2 ^ 16 % 2 ^ 8) (u / 2 ^ 16 % 2 ^ 8) _ (omega arith) (omega arith) old.lane2 (either_bit m n 2 (omega arith)) new.lane2,
      lane-clean (m / 8 % 2) (n / 8 % 2) _ (v / 2 ^ 24 % 2 ^ 8) (u / 2 ^ 24 % 2 ^ 8) _ (omega arith) (omega arith) old.lane3 (either_bit m n 3 (omega arith)) new.lane3,
    )
    (rw (new.lane0, new.lane1, new.lane2, new.lane3) refl)

-- an exact mask and value are still exact after the bytes of another store are laid over them
pub IsExact-then : (w m v n u : ℕ) → IsExact w m v → IsExact w (bit_or m (n % 16)) (word_over (bytes_of 0 n u) v)
IsExact-then w m v n u h =
    record {
      place = place_of (w / 4) _ _ m v w h.place;
      bits = mask_of-bytes_of (w / 4) (bit_or m (n % 16)) _ ∙ omega (arith, or_lt 4 m (n % 16) (omega (arith, mask_of-bytes_of (w / 4) m v, h.bits)) (omega arith));
      whole = whole-then w m v n u h;
    }
