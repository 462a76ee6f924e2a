use Rattle.std.proofs.Common.{◌≡◌, ◌+◌, ◌-◌, ◌≤◌, ◌^◌, length, vec_len}
use Rattle.std.specs.Prelude.{IfSome}
use Rattle.std.specs.Io.KnownBytes.{Consumes}
use Rattle.dl_files.specs.Told.{Reads}
use Rattle.dl_files.proofs.Lengths.{Shortens}
use Rattle.dl_files.proofs.streams.read_whole.Given as goal

abbrev pub invariant-loop-count : goal.invariant-loop-count
invariant-loop-count g l =
    (length l.piece ≤ 2 ^ 15) × (2 ^ 15 ≤ length l.piece)
    × Shortens l.count (g.S.System.left l.initial.file) (g.S.System.left l.file)
    × IfSome l.kept (λ bytes. Consumes (g.S.System.left l.initial.file) (g.S.System.left l.file) bytes.items × (vec_len bytes ≡ l.count))
    × Reads (g.S.System.told l.initial.system) (g.S.System.told l.system)

abbrev pub decreases-loop-count : goal.decreases-loop-count
decreases-loop-count g l = 2 ^ 30 + 1 - l.count
