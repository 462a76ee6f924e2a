use Rattle.std.proofs.Common.{◌≡◌, ◌++◌, take, flat_map}
use Rattle.dl_account.specs.Report.{point_line}
use Rattle.dl_account.proofs.report.put_points.Given as goal

abbrev pub invariant-loop-index : goal.invariant-loop-index
invariant-loop-index l = l.text ≡ l.initial.text ++ flat_map point_line (take l.index l.points.items)
