-- The modes of recording, as numbers.
use Rattle.std.specs.Prelude.{ℕ}
use Rattle.spec_log.specs.declared.mode_name.ModeName.{ModeName}
use Rattle.spec_log.specs.declared.mode_name.ModeName.TheVariants.{OrderSize, OrderOnly, Picolog}

-- the mode as a log's bytes have it
abbrev pub mode_code : ModeName → ℕ
mode_code OrderSize = 0
mode_code OrderOnly = 1
mode_code Picolog = 2
