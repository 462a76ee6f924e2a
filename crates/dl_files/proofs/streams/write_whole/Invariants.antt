use Rattle.std.proofs.Common.{◌≡◌, length, take, ◌-◌, ◌≤◌}
use Rattle.dl_files.specs.Told.{Grows}
use Rattle.dl_files.proofs.streams.write_whole.Given as goal

-- the first of the bytes are written
abbrev pub invariant-loop-done : goal.invariant-loop-done
invariant-loop-done g l = (l.done ≤ length l.bytes) × (g.S.System.target l.file ≡ g.S.System.target l.initial.file) × Grows (g.S.System.target l.initial.file) (take l.done l.bytes) (g.S.System.told l.initial.system) (g.S.System.told l.system)

abbrev pub decreases-loop-done : goal.decreases-loop-done
decreases-loop-done g l = length l.bytes - l.done
