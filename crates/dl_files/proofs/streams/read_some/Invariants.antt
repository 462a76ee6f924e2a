use Rattle.std.specs.Io.KnownBytes.{Keeps}
use Rattle.dl_files.specs.Told.{Reads}
use Rattle.dl_files.proofs.streams.read_some.Given as goal

-- nothing but interruptions yet
abbrev pub invariant-loop : goal.invariant-loop
invariant-loop g l = Keeps (g.S.System.left l.initial.file) (g.S.System.left l.file) × Reads (g.S.System.told l.initial.system) (g.S.System.told l.system)
