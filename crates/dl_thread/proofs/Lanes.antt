-- A store of a byte, a half or a word is the bytes of its word that its mask names.
use Rattle.std.proofs.Common.{◌≡◌, ℕ, zero, suc, ◌*◌, ◌/◌, ◌%◌, ◌^◌, ◌<◌, arith}
use Rattle.spec_isa.specs.Words.{Stored}
use Rattle.spec_isa.specs.Masks.{bytes_of}
use Rattle.spec_isa.specs.Operations.{part, stored}

-- the parts of a value that are stored from byte k of word number w on
abbrev parts : (size w k v : ℕ) → Stored
parts size w k v = record { number = w; b0 = part size k v 0; b1 = part size k v 1; b2 = part size k v 2; b3 = part size k v 3 }

byte_from : (w k v : ℕ) → k < 4 → bytes_of w (1 * 2 ^ k % 2 ^ 8) (v % 2 ^ 8 * 2 ^ (8 * k) % 2 ^ 32) ≡ parts 1 w k v
unfolding bytes_of
byte_from w zero v h = grind arith
byte_from w (suc zero) v h = grind arith
byte_from w (suc (suc zero)) v h = grind arith
byte_from w (suc (suc (suc zero))) v h = grind arith
byte_from w (suc (suc (suc (suc k)))) v h = absurd (omega arith)

half_from : (w k v : ℕ) → k < 4 → k % 2 ≡ 0 → bytes_of w (3 * 2 ^ k % 2 ^ 8) (v % 2 ^ 16 * 2 ^ (8 * k) % 2 ^ 32) ≡ parts 2 w k v
unfolding bytes_of
half_from w zero v h even = grind arith
half_from w (suc zero) v h even = absurd (omega arith)
half_from w (suc (suc zero)) v h even = grind arith
half_from w (suc (suc (suc zero))) v h even = absurd (omega arith)
half_from w (suc (suc (suc (suc k)))) v h even = absurd (omega arith)

-- of the word of an address, the bytes that SB's mask names are the store of one byte there
pub byte_bytes : (a v : ℕ) → bytes_of (a / 4) (1 * 2 ^ (a % 4) % 2 ^ 8) (v % 2 ^ 8 * 2 ^ (8 * (a % 4)) % 2 ^ 32) ≡ stored 1 a v
byte_bytes a v = byte_from (a / 4) (a % 4) v (omega arith)

-- of the word of an even address, the bytes that SH's mask names are the store of two bytes there
pub half_bytes : (a v : ℕ) → a % 2 ≡ 0 → bytes_of (a / 4) (3 * 2 ^ (a % 4) % 2 ^ 8) (v % 2 ^ 16 * 2 ^ (8 * (a % 4)) % 2 ^ 32) ≡ stored 2 a v
half_bytes a v aligned = half_from (a / 4) (a % 4) v (omega arith) (omega arith)
