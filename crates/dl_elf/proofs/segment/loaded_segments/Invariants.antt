use Rattle.std.proofs.Common.{◌≡◌}
use Rattle.dl_elf.specs.Segments.{first_loaded}
use Rattle.dl_elf.proofs.segment.loaded_segments.Given as goal

abbrev pub invariant-loop-i : goal.invariant-loop-i
invariant-loop-i l = l.segments.items ≡ first_loaded l.file l.i
