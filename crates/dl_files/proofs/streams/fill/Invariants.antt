use Rattle.std.proofs.Common.{◌≤◌, ◌-◌, length, take}
use Rattle.std.specs.Io.KnownBytes.{Consumes}
use Rattle.dl_files.specs.Told.{Reads}
use Rattle.dl_files.proofs.streams.fill.Given as goal

abbrev pub invariant-loop-filled : goal.invariant-loop-filled
invariant-loop-filled g l = (l.filled ≤ length l.into) × Consumes (g.S.System.left l.initial.file) (g.S.System.left l.file) (take l.filled l.into) × Reads (g.S.System.told l.initial.system) (g.S.System.told l.system)

abbrev pub decreases-loop-filled : goal.decreases-loop-filled
decreases-loop-filled g l = length l.into - l.filled
