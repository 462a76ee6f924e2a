use Rattle.std.proofs.Common.{◌≡◌, ◌++◌, take}
use Rattle.dl_account.specs.Lines.{numbered}
use Rattle.dl_account.specs.Summary.{sphere_line}
use Rattle.dl_account.proofs.summary.put_spheres.Given as goal

abbrev pub invariant-loop-number : goal.invariant-loop-number
invariant-loop-number l = l.text ≡ l.initial.text ++ numbered sphere_line 0 (take l.number l.spheres)
