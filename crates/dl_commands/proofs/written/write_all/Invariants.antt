use Rattle.std.proofs.Common.{take}
use Rattle.dl_commands.specs.Jobs.{writes_of}
use Rattle.dl_commands.specs.Stops.{AreWritten}
use Rattle.dl_commands.proofs.written.write_all.Given as goal

abbrev pub invariant-loop-i : goal.invariant-loop-i
invariant-loop-i g l = record { written : AreWritten (take l.i (writes_of l.writes)) (g.F.Files.seen l.fn.files) (g.F.Files.seen l.files) }
