-- A word whose bit isn't set has no place, also after one more gets its place.
use Rattle.std.proofs.Common.{◌≡◌, ◌≢◌, ℕ, ◌*◌, ◌%◌, ◌^◌, ◌<◌, inl, inr, cond, eqb, max, bit_or, Some, sym, ap, ◌∙◌, arith}
use Rattle.std.specs.Int.{bit_at}
use Rattle.std.proofs.lemmas.Bool.Decides.{eqb_tells}
use Rattle.std.proofs.lemmas.Nat.{one_shl}
use Rattle.std.proofs.lemmas.Nat.Bits.{bit_at_or, bit_at-pow_same}
use Rattle.dl_wbuf.specs.Tables.{Slots, IsSifted, line_bit, place}

second_unset : (m x y : ℕ) → m ≡ max x y → m ≡ 0 → y ≢ 1
second_unset m x y most unset = omega arith

first_unset : (m x y : ℕ) → m ≡ max x y → m ≡ 0 → x ≡ 0
first_unset m x y most unset = omega arith

-- so it is where bit j is that of the word which gets a place
pub IsSifted-set : (lines number at j : ℕ) (old new : Slots) → j ≡ line_bit number → j < 64 → ((a : ℕ) → place new a ≡ cond (eqb a number) (Some at) (place old a)) → IsSifted lines old → IsSifted (bit_or lines (1 * 2 ^ j % 2 ^ 64)) new
IsSifted-set lines number at j old new is small places sifted =
    record {
      none = λ a unset.
          let most = bit_at_or lines (1 * 2 ^ j % 2 ^ 64) (line_bit a) in
          elim (eqb_tells a number) [
            | inl here ↦
                let bit = ap (λ (b : ℕ). line_bit b) here.1 ∙ sym is in
                let one = ap (λ (n : ℕ). bit_at n (line_bit a)) (one_shl j 64 small) ∙ ap (λ (i : ℕ). bit_at (2 ^ j) i) bit ∙ bit_at-pow_same j in
                absurd (second_unset _ _ _ most unset one)
            | inr other ↦ places a ∙ rw other.0 (sifted.none a (first_unset _ _ _ most unset))
          ];
    }
