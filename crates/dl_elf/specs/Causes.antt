-- When a file is refused.
use Rattle.std.specs.Prelude.{◌≡◌, ℕ, ◌≤◌, Result, Err}
use Rattle.dl_elf.specs.declared.image.ElfError.{ElfError}
use Rattle.dl_elf.specs.declared.image.ElfError.TheVariants.{Refused, OutOfMemory}
use Rattle.dl_elf.specs.Images.{Image}

-- that rule is the first one broken; or memory ran out, with a file that keeps every rule on its header, the first eight
abbrev pub IsCause : Result Image ℕ → ElfError → Type 0
IsCause image (Refused rule) = image ≡ Err rule
IsCause image OutOfMemory = (rule : ℕ) → image ≡ Err rule → 9 ≤ rule
