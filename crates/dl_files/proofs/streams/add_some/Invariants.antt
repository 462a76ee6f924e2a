use Rattle.std.specs.Prelude.{◌≡◌}
use Rattle.dl_files.specs.Told.{Reads}
use Rattle.dl_files.proofs.streams.add_some.Given as goal

-- nothing but interruptions yet
abbrev pub invariant-loop : goal.invariant-loop
invariant-loop g l = (g.S.System.target l.file ≡ g.S.System.target l.initial.file) × Reads (g.S.System.told l.initial.system) (g.S.System.told l.system)
