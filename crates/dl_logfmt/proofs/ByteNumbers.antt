-- A number is read back from its bytes, the low one first, and bytes are those of their number.
use Rattle.std.proofs.Common.{◌≡◌, ℕ, zero, suc, ◌+◌, ◌*◌, ◌/◌, ◌%◌, ◌^◌, ◌<◌, List, [], ◌∷◌, All, length, refl, ap, sym, ◌∙◌, append-nil, arith}
use Rattle.std.proofs.Math.Nat.{div-one, pow-suc, pow-succ', div-div-eq-div-mul}
use Rattle.std.proofs.lemmas.List.Elements.{All-head, All-tail}
use Rattle.std.specs.Int.{byte_at, bytes_low_first}
use Rattle.byteorder.specs.Endian.{little_from}
use Rattle.byteorder.specs.Numbers.{little_from-cons, length-bytes_low_first, little_number-reads_back}
use Rattle.spec_log.specs.Fields.{number_of}
use Rattle.spec_log.specs.Bytes.{little}

-- the number is one of a byte
abbrev pub IsByte : ℕ → Type 0
IsByte byte = byte < 256

number_of-little_from : (bytes : List ℕ) → number_of bytes ≡ little_from 0 (length bytes) bytes
number_of-little_from [] = refl
number_of-little_from (byte ∷ bytes) =
    rw (little_from-cons 0 (length bytes) byte bytes, number_of-little_from bytes) refl

-- a number in so many bytes has that many
pub length-little : (width x : ℕ) → length (little width x) ≡ width
length-little width x = length-bytes_low_first 0 width x

-- a number that fits is read back
pub number_of-little : (width x : ℕ) → x < 256 ^ width → number_of (little width x) ≡ x
number_of-little width x fits =
    number_of-little_from (little width x)
    ∙ ap (λ n. little_from 0 n (little width x)) (length-little width x)
    ∙ ap (little_from 0 width) (sym (append-nil (little width x)))
    ∙ little_number-reads_back width x [] fits

byte_at-pow : (i x : ℕ) → byte_at i x ≡ x / 256 ^ i % 256
byte_at-pow zero x = ap (λ (y : ℕ). y % 256) (sym (div-one x))
byte_at-pow (suc i) x = refl

byte_at-above : (i byte m : ℕ) → byte < 256 → byte_at (suc i) (byte + 256 * m) ≡ byte_at i m
byte_at-above i byte m below =
    let up : (byte + 256 * m) / 256 ≡ m = omega arith in
    rw (byte_at-pow (suc i) (byte + 256 * m), byte_at-pow i m, pow-succ' 256 i, ← div-div-eq-div-mul (byte + 256 * m) 256 (256 ^ i), up) refl

bytes_low_first-above : (i k byte m : ℕ) → byte < 256 → bytes_low_first (suc i) k (byte + 256 * m) ≡ bytes_low_first i k m
bytes_low_first-above i zero byte m below = refl
bytes_low_first-above i (suc k) byte m below =
    rw (byte_at-above i byte m below, bytes_low_first-above (suc i) k byte m below) refl

-- bytes are those of the number that they make
pub little-number_of : (bytes : List ℕ) → All IsByte bytes → little (length bytes) (number_of bytes) ≡ bytes
little-number_of [] good = refl
little-number_of (byte ∷ bytes) good =
    let below : byte < 256 = All-head IsByte byte bytes good in
    let low : (byte + 256 * number_of bytes) % 256 ≡ byte = omega arith in
    rw (bytes_low_first-above 0 (length bytes) byte (number_of bytes) below, little-number_of bytes (All-tail IsByte byte bytes good), low) refl

-- the number that bytes make is below 256 to the power of how many they are
pub number_of-below : (bytes : List ℕ) → All IsByte bytes → number_of bytes < 256 ^ length bytes
number_of-below [] good = omega arith
number_of-below (byte ∷ bytes) good =
    let below : byte < 256 = All-head IsByte byte bytes good in
    let rest = number_of-below bytes (All-tail IsByte byte bytes good) in
    rw (pow-suc 256 (length bytes)) (omega arith)
