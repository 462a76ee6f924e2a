-- A generated image has the same length whatever its number.
use Rattle.std.proofs.Common.{◌≡◌, ℕ, length, refl}
use Rattle.dl_asm.specs.File.{code_of, file_of}
use Rattle.dl_make.specs.Generated.{words_of, made}

-- the code of a generated image has 92 bytes
pub code-length : (v : ℕ) → length (code_of (words_of v)) ≡ 92
code-length v = refl

-- the file of a generated image has 176 bytes
pub made-length : (v : ℕ) → length (made v) ≡ 176
unfolding file_of
made-length v = refl
