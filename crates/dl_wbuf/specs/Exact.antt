-- The four bytes that a store may have, as a mask and a value.
use Rattle.std.specs.Prelude.{◌≡◌, ℕ, ◌*◌, ◌/◌}
use Rattle.spec_isa.specs.Masks.{bytes_of, mask_of, word_over}

-- the word is a multiple of 4, the mask has four bits, and the value's bytes outside the mask are 0
pub record IsExact (word mask value : ℕ) : Type 0 where
  pub place : 4 * (bytes_of (word / 4) mask value).number ≡ word
  pub bits : mask_of (bytes_of (word / 4) mask value) ≡ mask
  pub whole : word_over (bytes_of (word / 4) mask value) 0 ≡ value
