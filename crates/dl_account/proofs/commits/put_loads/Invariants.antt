use Rattle.std.proofs.Common.{◌≡◌, ◌++◌, take, flat_map}
use Rattle.dl_account.specs.Commits.{load_line}
use Rattle.dl_account.proofs.commits.put_loads.Given as goal

abbrev pub invariant-loop-load : goal.invariant-loop-load
invariant-loop-load l = l.text ≡ l.initial.text ++ flat_map load_line (take l.load-index l.loads)
