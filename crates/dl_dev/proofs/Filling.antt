-- A buffer filled from its front on holds the random bytes of the definitions.
use Rattle.std.proofs.Common.{◌≡◌, ℕ, zero, suc, ◌+◌, ◌%◌, ◌^◌, ◌<◌, List, [], ◌∷◌, ◌++◌, length, take, set, refl, ap, sym, ◌∙◌, add-one}
use Rattle.std.proofs.lemmas.List.{take_more_set}
use Rattle.rand_pcg.specs.Lcg.{Lcg}
use Rattle.rand_pcg.specs.Pcg.{pcg32}
use Rattle.spec_kernel.specs.Devices.{random_bytes, random_after}

after-suc : (i : ℕ) (g : Lcg) → random_after (suc i) g ≡ (pcg32 (random_after i g)).1
unfolding random_after
after-suc zero g = refl
after-suc (suc i) g = after-suc i (pcg32 g).1

bytes-suc : (i : ℕ) (g : Lcg) → random_bytes (suc i) g ≡ random_bytes i g ++ (pcg32 (random_after i g)).0 % 2 ^ 8 ∷ []
unfolding random_bytes random_after
bytes-suc zero g = refl
bytes-suc (suc i) g = ap (λ bytes. (pcg32 g).0 % 2 ^ 8 ∷ bytes) (bytes-suc i (pcg32 g).1)

-- the first i bytes are there, and the words are in the state after them
pub record IsFilled (start : Lcg) (i : ℕ) (into : List ℕ) (words : Lcg) : Type 0 where
  pub bytes : take i into ≡ random_bytes i start
  pub moved : words ≡ random_after i start
  pub stream : words.increment ≡ start.increment

-- before the first byte nothing is filled, and the words are in their first state
pub none_filled : (start : Lcg) (into : List ℕ) → IsFilled start 0 into start
unfolding random_bytes random_after
none_filled start into = record { bytes = refl; moved = refl; stream = refl }

-- with the low byte of the next word put after the filled bytes, one more byte is filled
pub one_filled : (start : Lcg) (i : ℕ) (into : List ℕ) (words : Lcg) (byte : ℕ) → IsFilled start i into words → i < length into → byte ≡ (pcg32 words).0 % 2 ^ 8
    → IsFilled start (i + 1) (set into i byte) (pcg32 words).1
one_filled start i into words byte filled within is =
    record {
      bytes =
          take_more_set into i byte within ∙ ap (λ bytes. bytes ++ byte ∷ []) filled.bytes
          ∙ ap (λ b. random_bytes i start ++ b ∷ []) (is ∙ ap (λ g. (pcg32 g).0 % 2 ^ 8) filled.moved)
          ∙ sym (bytes-suc i start) ∙ ap (λ n. random_bytes n start) (sym (add-one i));
      moved = ap (λ g. (pcg32 g).1) filled.moved ∙ sym (after-suc i start) ∙ ap (λ n. random_after n start) (sym (add-one i));
      stream = filled.stream;
    }
