-- Threads that need not be there.
use Rattle.std.specs.Prelude.{Bool, false, Option, Some, None}
use Rattle.spec_isa.specs.declared.thread.Parts.{Parts}
use Rattle.spec_kernel.specs.Interrupts.{is_live}

-- a thread that is there lives
abbrev pub lives : Option Parts → Bool
lives None = false
lives (Some t) = is_live t
